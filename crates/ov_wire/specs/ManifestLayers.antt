-- What the entries of a layer make of it, or the first fault among them.
use Rattle.std.specs.Prelude.{◌≡◌, codes, ℕ, suc, Bool, true, false, ◌&&◌, not, List, [], ◌∷◌, Option, Some, None, is_some, Result, Ok, Err, if◌then◌else◌}
use Rattle.std.specs.Option.{ok_or}
use Rattle.toml.specs.Data.{Data, Items, no_items, item, Members, as_table}
use Rattle.ov_base.specs.declared.attributes.Attributes.{Attributes}
use Rattle.ov_base.specs.declared.options.Options.{Options}
use Rattle.plain_model.specs.Layers.{Name, Path, Object, Directory, Named, Whiteout, Layer, held, same_path}
use Rattle.layer_tree.specs.Tree.{HasMark, Tree, layer_of}
use Rattle.layer_tree.specs.declared.node.Object.TheVariants as object
use Rattle.ov_wire.specs.ManifestEntries.{and_then, items_at, read}
use Rattle.ov_wire.specs.Manifests.{entries_in, whole_of}
use Rattle.ov_wire.specs.declared.manifest.entry.Item.{Item}
use Rattle.ov_wire.specs.declared.manifest.entry.Item.TheVariants as put
use Rattle.ov_wire.specs.declared.manifest.fault.EntryFault.{EntryFault}
use Rattle.ov_wire.specs.declared.manifest.fault.EntryFault.TheVariants as fault
use Rattle.ov_wire.specs.declared.manifest.fault.EntryError.{EntryError}
use Rattle.ov_wire.specs.declared.manifest.fault.EntryError.TheVariants as error
use Rattle.ov_wire.specs.declared.manifest.fault.ManifestFault.{ManifestFault}
use Rattle.ov_wire.specs.declared.manifest.fault.ManifestFault.TheVariants as whole

-- an entry: a path and what is put there
abbrev pub Entry : Type 0
Entry = Path × Item

-- what entries put at a path
abbrev pub put_at : List Entry → Path → Option Item
put_at [] p = None
put_at (e ∷ before) p = if same_path e.0 p then Some e.1 else put_at before p

abbrev pub is_directory : Option Item → Bool
is_directory (Some (put.Object (object.Directory a m))) = true
is_directory _ = false

-- whether a file or symbolic link was put, by an entry of its kind
abbrev pub is_inode : Option Item → Bool
is_inode (Some (put.Object (object.Inode c a))) = true
is_inode _ = false

-- whether a further name was put, by an entry of kind `link`
abbrev pub is_further : Option Item → Bool
is_further (Some (put.Link to)) = true
is_further _ = false

-- whether a further name leads to a file or symbolic link that was put before; nothing else leads anywhere
abbrev pub leads : List Entry → Item → Bool
leads before (put.Link (Some (name ∷ path))) = is_inode (put_at before (name ∷ path))
leads before (put.Link _) = false
leads before _ = true

-- how many further names lead to a path
abbrev pub is_name_of : Path → Item → Bool
is_name_of p (put.Link (Some to)) = same_path to p
is_name_of p _ = false

abbrev pub further_names : List Entry → Path → ℕ
further_names [] p = 0
further_names (e ∷ before) p = if is_name_of p e.1 then suc (further_names before p) else further_names before p

-- whether there is a directory at a path: the root, or what an entry put there
abbrev pub has_directory : List Entry → Path → Bool
has_directory before [] = true
has_directory before (name ∷ path) = is_directory (put_at before (name ∷ path))

-- The entries with one more. Only one directory may be put at `/`. Elsewhere the parent is to be a directory, nothing may be put there
-- before, and a further name leads to a file or symbolic link.
abbrev pub with_entry : List Entry → Path → Item → Result (List Entry) EntryFault
with_entry before [] i = if is_directory (Some i) && not (is_some (put_at before [])) then Ok (([], i) ∷ before) else Err fault.Exists
with_entry before (name ∷ path) i =
    if not (has_directory before path) then Err fault.Parent
    else (if is_some (put_at before (name ∷ path)) then Err fault.Exists
    else (if not (leads before i) then Err fault.Link
    else Ok ((name ∷ path, i) ∷ before)))

-- the entries with one more as a manifest spells it, in which a file has at most so many bytes and may be part of these blobs
abbrev pub with_spelled : ℕ → List (List ℕ) → List Entry → Data → Result (List Entry) EntryFault
with_spelled limit blobs before d = and_then (ok_or (as_table d) fault.Kind) (λ m. and_then (read limit blobs m) (λ e. with_entry before e.0 e.1))

-- a fault beside the number of its entry
abbrev pub numbered : {T : Type 0} → ℕ → Result T EntryFault → Result T (ℕ × EntryFault)
numbered number (Ok x) = Ok x
numbered number (Err f) = Err (number, f)

-- the entries with those that follow, from this number on
abbrev pub entries_from : ℕ → List (List ℕ) → ℕ → List Entry → Items → Result (List Entry) (ℕ × EntryFault)
entries_from limit blobs number before no_items = Ok before
entries_from limit blobs number before (item d rest) = and_then (numbered number (with_spelled limit blobs before d)) (λ more. entries_from limit blobs (suc number) more rest)

-- THE ENTRIES OF A LAYER whose files have at most so many bytes and may be parts of these blobs, or the first fault with the number of its entry
abbrev pub entries_of : ℕ → List (List ℕ) → Items → Result (List Entry) (ℕ × EntryFault)
entries_of limit blobs items = entries_from limit blobs 0 [] items

-- the attributes of a root: those of the directory that was put at `/`, else 0o755 and 0
abbrev pub root_of : Option Item → Attributes
root_of (Some (put.Object (object.Directory a m))) = a
root_of _ = record { mode = 493; uid = 0; gid = 0; user = [] }

-- What a layer holds where this was put. A file or symbolic link is an inode with so many names; a further name names the inode of the
-- path to which it leads. No entry puts a file without bytes of its own.
abbrev pub Stands : Layer → ℕ → Option Object → Option Item → Type 0
Stands L names o None = o ≡ None
Stands L names o (Some put.Whiteout) = o ≡ Some Whiteout
Stands L names o (Some (put.Object (object.Directory a m))) = (key : ℕ) × (o ≡ Some (Directory key a m.opaque m.redirect))
Stands L names o (Some (put.Object (object.Inode c a))) = (key : ℕ) × (o ≡ Some (Named key)) × (L.inodes key ≡ Some (record { content = c; attributes = a; links = names; mark = None }))
Stands L names o (Some (put.Object (object.Marked q a))) = ⊥
Stands L names o (Some (put.Link None)) = ⊥
Stands L names o (Some (put.Link (Some to))) = (key : ℕ) × (o ≡ Some (Named key)) × (held L to ≡ Some (Named key))

-- below its root the layer holds at each path what was put there; an inode has the name where it was put, and each that leads there
abbrev pub HoldsEntries : Layer → List Entry → Type 0
HoldsEntries L entries = (name : Name) (path : Path) → Stands L (suc (further_names entries (name ∷ path))) (held L (name ∷ path)) (put_at entries (name ∷ path))

-- files and symbolic links that were put at two paths are two inodes
abbrev pub HoldsApart : Layer → List Entry → Type 0
HoldsApart L entries = (p q : Path) (key : ℕ) → is_inode (put_at entries p) ≡ true → is_inode (put_at entries q) ≡ true → held L p ≡ Some (Named key) → held L q ≡ Some (Named key) → p ≡ q

-- each further name leads to a path at which a file or symbolic link was put
abbrev pub LeadOn : List Entry → Type 0
LeadOn entries = (p to : Path) → put_at entries p ≡ Some (put.Link (Some to)) → is_inode (put_at entries to) ≡ true

-- THE LAYER IS AS THESE ENTRIES SAY
pub record IsAsSaid (L : Layer) (entries : List Entry) : Type 0 where
  pub root : L.root ≡ root_of (put_at entries [])
  pub below : HoldsEntries L entries
  pub apart : HoldsApart L entries
  pub lead : LeadOn entries

-- no file of the layer bears a mark
abbrev pub HasNoMark : Layer → Type 0
HasNoMark L = HasMark L → ⊥

-- the layer is as its entries say, none of which is at fault where a file has at most so many bytes
abbrev pub IsSpelled : ℕ → List (List ℕ) → Layer → Items → Type 0
IsSpelled limit blobs L items = (entries : List Entry) × (entries_of limit blobs items ≡ Ok entries) × IsAsSaid L entries

-- the fault of this entry, or an allocation failure
abbrev pub fault_at : ℕ → ℕ → EntryError → ManifestFault
fault_at layer number (error.Fault f) = whole.Entry layer number f
fault_at layer number (error.Memory e) = whole.Memory e

-- a layer of this number as its entries say, or the first fault among them, unless memory ran out
abbrev pub ReadsLayer : ℕ → List (List ℕ) → ℕ → Items → Result Tree ManifestFault → Type 0
ReadsLayer limit blobs index items (Ok t) = IsSpelled limit blobs (layer_of t) items
ReadsLayer limit blobs index items (Err (whole.Entry layer number f)) = (layer ≡ index) × (entries_of limit blobs items ≡ Err (number, f))
ReadsLayer limit blobs index items (Err (whole.Memory e)) = Unit {0}
ReadsLayer limit blobs index items (Err _) = ⊥

-- the first fault of a layer, or else what follows
abbrev pub fault_or : ℕ → Result (List Entry) (ℕ × EntryFault) → Option ManifestFault → Option ManifestFault
fault_or index (Ok entries) later = later
fault_or index (Err e) later = Some (whole.Entry index e.0 e.1)

-- THE FIRST FAULT OF THE ENTRIES of layers that are numbered from here, where a file has at most so many bytes
abbrev pub layers_fault : ℕ → List (List ℕ) → ℕ → Items → Option ManifestFault
layers_fault limit blobs index no_items = None
layers_fault limit blobs index (item d rest) = fault_or index (entries_of limit blobs (entries_in d)) (layers_fault limit blobs (suc index) rest)

-- THE LAYERS ARE AS THEIR ENTRIES SAY, each in its place, where a file has at most so many bytes
abbrev pub AreSpelled : ℕ → List (List ℕ) → List Layer → Items → Type 0
AreSpelled limit blobs [] no_items = Unit {0}
AreSpelled limit blobs (L ∷ Ls) (item d rest) = IsSpelled limit blobs L (entries_in d) × AreSpelled limit blobs Ls rest
AreSpelled limit blobs _ _ = ⊥

-- the layers that a manifest spells
abbrev pub layer_items : Members → Items
layer_items m = items_at (codes "layer") m

-- a value, unless there is a fault
abbrev pub unless_fault : {T : Type 0} → Option ManifestFault → T → Result T ManifestFault
unless_fault (Some f) x = Err f
unless_fault None x = Ok x

-- THE OPTIONS OF A MANIFEST, or its first fault: of the whole, or else of an entry
abbrev pub manifest_of : List (List ℕ) → Members → Result Options ManifestFault
manifest_of blobs m = and_then (whole_of m) (λ options. unless_fault (layers_fault options.file_limit blobs 0 (layer_items m)) options)

-- this fault is told, unless memory ran out
abbrev pub IsTold : Option ManifestFault → ManifestFault → Type 0
IsTold wanted (whole.Memory e) = Unit {0}
IsTold wanted f = wanted ≡ Some f

-- the fault of what has one
abbrev pub fault_of : {T : Type 0} → Result T ManifestFault → Option ManifestFault
fault_of (Ok x) = None
fault_of (Err f) = Some f
