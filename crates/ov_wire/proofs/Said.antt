-- What an entry that is not at fault says.
use Rattle.std.proofs.Common.{◌≡◌, ℕ, List, Option, Some, None, Result, Ok, Err, refl, sym, subst}
use Rattle.std.specs.Option.{ok_or}
use Rattle.std.specs.Result.{result_ok}
use Rattle.toml.specs.Data.{Data, Members, as_table}
use Rattle.plain_model.specs.Layers.{Path}
use Rattle.ov_wire.specs.ManifestEntries.{and_then, kind_of, path_of, path_to, attributes_of, marks_of, bytes_of, target_of, item_of, checked, read}
use Rattle.ov_wire.specs.ManifestLayers.{Entry, with_entry, with_spelled, numbered}
use Rattle.ov_wire.specs.declared.manifest.entry.EntryKind.{EntryKind}
use Rattle.ov_wire.specs.declared.manifest.entry.EntryKind.TheVariants as kind
use Rattle.ov_wire.specs.declared.manifest.entry.Item.TheVariants as put
use Rattle.ov_wire.specs.declared.manifest.entry.Item.{Item}
use Rattle.ov_wire.specs.declared.manifest.fault.EntryFault.{EntryFault}
use Rattle.ov_wire.specs.declared.manifest.fault.EntryFault.TheVariants as fault

abbrev pub ok : {T : Type 0} → T → Result T EntryFault
ok x = Ok x

-- what a chain of two gave came through both
pub then-ok : {T U E : Type 0} (r : Result T E) (f : T → Result U E) (y : U) → and_then r f ≡ Ok y → (x : T) × (r ≡ Ok x) × (f x ≡ Ok y)
then-ok (Ok x) f y e = (x, refl, e)
then-ok (Err e) f y h = absurd (cc)

-- a value in place of none
pub ok_or-ok : {T E : Type 0} (o : Option T) (e : E) (x : T) → ok_or o e ≡ Ok x → o ≡ Some x
ok_or-ok None e x h = absurd (cc)
ok_or-ok (Some y) e x h = cc

-- a result that is there
pub result_ok-some : {T E : Type 0} (r : Result T E) (x : T) → result_ok r ≡ Some x → r ≡ Ok x
result_ok-some (Ok y) x h = cc
result_ok-some (Err e) x h = absurd (cc)

-- an entry that is not at fault: its table, its kind, its path and what it puts there
pub record Says (limit : ℕ) (blobs : List (List ℕ)) (before : List Entry) (d : Data) (after : List Entry) : Type 0 where
  pub table : Members
  pub k : EntryKind
  pub path : Path
  pub puts : Item
  pub is_table : as_table d ≡ Some table
  pub is_kind : kind_of table ≡ Ok k
  pub is_path : path_of table ≡ Ok path
  pub is_item : item_of limit blobs k table ≡ Ok puts
  pub is_placed : with_entry before path puts ≡ Ok after

-- such an entry in its steps
pub says : (limit : ℕ) (blobs : List (List ℕ)) (before : List Entry) (d : Data) (after : List Entry) → with_spelled limit blobs before d ≡ Ok after → Says limit blobs before d after
says limit blobs before d after h =
    let m = then-ok (ok_or (as_table d) fault.Kind) _ after h in
    let e = then-ok (read limit blobs m.0) _ after m.2 in
    let k = then-ok (kind_of m.0) _ e.0 e.1 in
    let p = then-ok (path_of m.0) _ e.0 k.2 in
    let c = then-ok (checked k.0 p.0 m.0) _ e.0 p.2 in
    let i = then-ok (item_of limit blobs k.0 m.0) _ e.0 c.2 in
    let pair : (p.0, i.0) ≡ e.0 = unwrap _ _ i.2 in
    record {
      table = m.0;
      k = k.0;
      path = p.0;
      puts = i.0;
      is_table = ok_or-ok (as_table d) fault.Kind m.0 m.1;
      is_kind = k.1;
      is_path = p.1;
      is_item = i.1;
      is_placed = subst (λ (x : Path × Item). with_entry before x.0 x.1 ≡ Ok after) (sym pair) e.2;
    }
  where
    unwrap : (x y : Path × Item) → ok x ≡ Ok y → x ≡ y
    unwrap x y e = cc

-- the number of an entry is told with a fault alone
pub unnumbered : {T : Type 0} (number : ℕ) (r : Result T EntryFault) (x : T) → numbered number r ≡ Ok x → r ≡ Ok x
unnumbered number (Ok y) x e = cc
unnumbered number (Err f) x e = absurd (cc)

-- what puts a further name is of kind `link`, and gives where it leads
pub link-item : (limit : ℕ) (blobs : List (List ℕ)) (k : EntryKind) (m : Members) (to : Option Path) → item_of limit blobs k m ≡ Ok (put.Link to) → path_to m ≡ to
link-item limit blobs kind.Directory m to h =
    let a = then-ok (attributes_of 493 m) _ (put.Link to) h in
    let b = then-ok (marks_of m) _ (put.Link to) a.2 in
    let e = b.2 in absurd (cc)
link-item limit blobs kind.File m to h =
    let a = then-ok (attributes_of 420 m) _ (put.Link to) h in
    let b = then-ok (bytes_of limit blobs m) _ (put.Link to) a.2 in
    let e = b.2 in absurd (cc)
link-item limit blobs kind.SymbolicLink m to h =
    let a = then-ok (attributes_of 511 m) _ (put.Link to) h in
    let b = then-ok (target_of m) _ (put.Link to) a.2 in
    let e = b.2 in absurd (cc)
link-item limit blobs kind.Whiteout m to h = absurd (cc)
link-item limit blobs kind.HardLink m to h = cc
