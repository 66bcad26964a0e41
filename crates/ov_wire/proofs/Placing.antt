-- What becomes of a layer that holds what entries put, when one more is placed.
use Rattle.std.proofs.Common.{◌≡◌, ◌≢◌, ◌⊎◌, inl, inr, ℕ, suc, Bool, true, false, not, List, [], ◌∷◌, Option, Some, None, is_some, Result, Ok, Err, cond, ◌&&◌, add-one, option_map, refl, sym, ap, subst, ◌∙◌, true≢false}
use Rattle.std.specs.Option.{ok_or}
use Rattle.std.proofs.lemmas.Bool.{cases_Bool, both_ways}
use Rattle.toml.specs.Data.{Data, Members, as_table}
use Rattle.ov_base.specs.declared.attributes.Attributes.{Attributes}
use Rattle.plain_model.specs.Layers.{Name, Path, Object, Directory, Named, Layer, Inode, IsLayer, held, holds_directory, same_path}
use Rattle.plain_model.proofs.Paths.{paths_tell}
use Rattle.layer_tree.specs.Link.{with_more}
use Rattle.layer_tree.specs.declared.node.Marks.{Marks}
use Rattle.layer_tree.specs.declared.node.Object.TheVariants as object
use Rattle.ov_wire.specs.ManifestEntries.{and_then, read}
use Rattle.ov_wire.specs.ManifestLayers.{Entry, put_at, is_directory, is_inode, is_further, leads, is_name_of, further_names, has_directory, with_entry, with_spelled, Stands, HoldsApart, LeadOn}
use Rattle.ov_wire.specs.Drafts.{IsDraft, Places, Puts, PutsName, Comes, Plants, Tells, is_named, leads_in}
use Rattle.ov_wire.specs.declared.manifest.entry.Item.{Item}
use Rattle.ov_wire.specs.declared.manifest.entry.Item.TheVariants as put
use Rattle.ov_wire.specs.declared.manifest.fault.EntryError.{EntryError}
use Rattle.ov_wire.specs.declared.manifest.fault.EntryError.TheVariants as error
use Rattle.ov_wire.specs.declared.manifest.fault.EntryFault.{EntryFault}
use Rattle.ov_wire.specs.declared.manifest.fault.EntryFault.TheVariants as fault

-- a layer holds a directory where one was put
pub stands-directory : (L : Layer) (names : ℕ) (o : Option Object) (i : Option Item) → Stands L names o i → holds_directory o ≡ is_directory i
stands-directory L names o None h = ap holds_directory h
stands-directory L names o (Some put.Whiteout) h = ap holds_directory h
stands-directory L names o (Some (put.Object (object.Directory a m))) h = ap holds_directory h.1
stands-directory L names o (Some (put.Object (object.Inode c a))) h = ap holds_directory h.1
stands-directory L names o (Some (put.Object (object.Marked q a))) h = absurd h
stands-directory L names o (Some (put.Link None)) h = absurd h
stands-directory L names o (Some (put.Link (Some to))) h = ap holds_directory h.1

-- a layer holds something where something was put
pub stands-some : (L : Layer) (names : ℕ) (o : Option Object) (i : Option Item) → Stands L names o i → is_some o ≡ is_some i
stands-some L names o None h = ap (λ (x : Option Object). is_some x) h
stands-some L names o (Some put.Whiteout) h = ap (λ (x : Option Object). is_some x) h
stands-some L names o (Some (put.Object (object.Directory a m))) h = ap (λ (x : Option Object). is_some x) h.1
stands-some L names o (Some (put.Object (object.Inode c a))) h = ap (λ (x : Option Object). is_some x) h.1
stands-some L names o (Some (put.Object (object.Marked q a))) h = absurd h
stands-some L names o (Some (put.Link None)) h = absurd h
stands-some L names o (Some (put.Link (Some to))) h = ap (λ (x : Option Object). is_some x) h.1

-- what stands goes on standing where no inode is lost, and what each path held is held still
stands-kept : (old new : Layer) → ((k : ℕ) (i : Inode) → old.inodes k ≡ Some i → new.inodes k ≡ Some i) → ((p : Path) → is_some (held old p) ≡ true → held new p ≡ held old p) → (names : ℕ) (o : Option Object) (i : Option Item) → Stands old names o i → Stands new names o i
stands-kept old new kept same names o None h = h
stands-kept old new kept same names o (Some put.Whiteout) h = h
stands-kept old new kept same names o (Some (put.Object (object.Directory a m))) h = h
stands-kept old new kept same names o (Some (put.Object (object.Inode c a))) h = (h.0, h.1, kept h.0 _ h.2)
stands-kept old new kept same names o (Some (put.Object (object.Marked q a))) h = h
stands-kept old new kept same names o (Some (put.Link None)) h = h
stands-kept old new kept same names o (Some (put.Link (Some to))) h = (h.0, h.1, same to (ap (λ (x : Option Object). is_some x) h.2) ∙ h.2)

-- the parent is a directory in the layer where it is one by the entries
pub parent-there : (L : Layer) (a : Attributes) (set : Bool) (before : List Entry) → IsDraft L a set before → (path : Path) → holds_directory (held L path) ≡ has_directory before path
parent-there L a set before d [] = refl
parent-there L a set before d (name ∷ path) = stands-directory L (suc (further_names before (name ∷ path))) (held L (name ∷ path)) (put_at before (name ∷ path)) (d.below name path)

-- the same of whether something is there
pub name-there : (L : Layer) (a : Attributes) (set : Bool) (before : List Entry) → IsDraft L a set before → (name : Name) (path : Path) → is_some (held L (name ∷ path)) ≡ is_some (put_at before (name ∷ path))
name-there L a set before d name path = stands-some L (suc (further_names before (name ∷ path))) (held L (name ∷ path)) (put_at before (name ∷ path)) (d.below name path)

-- which fault is told first: `parent`, `exists`, `link`
first : {T : Type 0} (b c l : Bool) (x y z w : T) → b ≡ false → cond (not b) x (cond c y (cond (not l) z w)) ≡ x
first true c l x y z w e = absurd (true≢false e)
first false c l x y z w e = refl

second : {T : Type 0} (b c l : Bool) (x y z w : T) → b ≡ true → c ≡ true → cond (not b) x (cond c y (cond (not l) z w)) ≡ y
second true true l x y z w e f = refl
second true false l x y z w e f = absurd (true≢false (sym f))
second false c l x y z w e f = absurd (true≢false (sym e))

third : {T : Type 0} (b c l : Bool) (x y z w : T) → b ≡ true → c ≡ false → cond (not b) x (cond c y (cond (not l) z w)) ≡ cond (not l) z w
third true true l x y z w e f = absurd (true≢false f)
third true false l x y z w e f = refl
third false c l x y z w e f = absurd (true≢false (sym e))

pub at-fault-parent : (before : List Entry) (name : Name) (path : Path) (i : Item) → has_directory before path ≡ false → with_entry before (name ∷ path) i ≡ Err fault.Parent
at-fault-parent before name path i h = first (has_directory before path) (is_some (put_at before (name ∷ path))) (leads before i) (Err fault.Parent) (Err fault.Exists) (Err fault.Link) (Ok ((name ∷ path, i) ∷ before)) h

pub at-fault-exists : (before : List Entry) (name : Name) (path : Path) (i : Item) → has_directory before path ≡ true → is_some (put_at before (name ∷ path)) ≡ true → with_entry before (name ∷ path) i ≡ Err fault.Exists
at-fault-exists before name path i h e = second (has_directory before path) (is_some (put_at before (name ∷ path))) (leads before i) (Err fault.Parent) (Err fault.Exists) (Err fault.Link) (Ok ((name ∷ path, i) ∷ before)) h e

pub placed-or-link : (before : List Entry) (name : Name) (path : Path) (i : Item) (l : Bool) → has_directory before path ≡ true → is_some (put_at before (name ∷ path)) ≡ false → leads before i ≡ l → with_entry before (name ∷ path) i ≡ cond (not l) (Err fault.Link) (Ok ((name ∷ path, i) ∷ before))
placed-or-link before name path i l h e led =
    third (has_directory before path) (is_some (put_at before (name ∷ path))) (leads before i) (Err fault.Parent) (Err fault.Exists) (Err fault.Link) (Ok ((name ∷ path, i) ∷ before)) h e
    ∙ ap (λ (b : Bool). cond (not b) (Err fault.Link) (Ok ((name ∷ path, i) ∷ before))) led

-- the root's attributes are those of what is held there
root-same : (old new : Layer) → held new [] ≡ held old [] → new.root ≡ old.root
root-same old new e = cc

-- where a further name leads
from-leads : (before : List Entry) (to : Path) → leads before (put.Link (Some to)) ≡ true → is_inode (put_at before to) ≡ true
from-leads before [] h = absurd (true≢false (sym h))
from-leads before (n ∷ p) h = h

from-link : (before : List Entry) (i : Item) (to : Path) → i ≡ put.Link (Some to) → leads before i ≡ true → is_inode (put_at before to) ≡ true
from-link before i to is h = from-leads before to (sym (ap (leads before) is) ∙ h)

-- an item that counts as a name of a path is a further name that leads there
name-of : (p : Path) (i : Item) → is_name_of p i ≡ true → (to : Path) × (i ≡ put.Link (Some to)) × (to ≡ p)
name-of p (put.Object o) h = absurd (true≢false (sym h))
name-of p put.Whiteout h = absurd (true≢false (sym h))
name-of p (put.Link None) h = absurd (true≢false (sym h))
name-of p (put.Link (Some to)) h = (to, refl, (paths_tell to p).0 h)

-- what an entry at a free path leaves of what was put
module _ (before : List Entry) (name : Name) (path : Path) (i : Item) (none : is_some (put_at before (name ∷ path)) ≡ false) (led : leads before i ≡ true) where
  abbrev pub after : List Entry
  after = (name ∷ path, i) ∷ before

  pub put-here : (p : Path) → same_path (name ∷ path) p ≡ true → put_at after p ≡ Some i
  put-here p same = ap (λ (b : Bool). cond b (Some i) (put_at before p)) same

  pub put-beside : (p : Path) → same_path (name ∷ path) p ≡ false → put_at after p ≡ put_at before p
  put-beside p off = ap (λ (b : Bool). cond b (Some i) (put_at before p)) off

  some-inode : (o : Option Item) → is_inode o ≡ true → is_some o ≡ true
  some-inode None h = absurd (true≢false (sym h))
  some-inode (Some x) h = refl

  -- a file or symbolic link stays put
  pub inode-kept : (to : Path) → is_inode (put_at before to) ≡ true → is_inode (put_at after to) ≡ true
  inode-kept to h = elim (cases_Bool (same_path (name ∷ path) to)) [
    | inl same ↦
        let here : name ∷ path ≡ to = (paths_tell (name ∷ path) to).0 same in
        absurd (true≢false (sym (some-inode (put_at before to) h) ∙ ap (λ (p : Path). is_some (put_at before p)) (sym here) ∙ none))
    | inr off ↦ ap (λ (o : Option Item). is_inode o) (put-beside to off) ∙ h
  ]

  pub lead-on : LeadOn before → LeadOn after
  lead-on lead p to e = elim (cases_Bool (same_path (name ∷ path) p)) [
    | inl same ↦
        let both : Some i ≡ Some (put.Link (Some to)) = sym (put-here p same) ∙ e in
        inode-kept to (from-link before i to (unwrapped i (put.Link (Some to)) both) led)
    | inr off ↦ inode-kept to (lead p to (sym (put-beside p off) ∙ e))
  ]
    where
      unwrapped : (x y : Item) → Some x ≡ Some y → x ≡ y
      unwrapped x y e = cc

  pub unled-on : ((p : Path) → is_inode (put_at before p) ≡ false → further_names before p ≡ 0) → (p : Path) → is_inode (put_at after p) ≡ false → further_names after p ≡ 0
  unled-on unled p h = of (is_inode (put_at before p)) (is_name_of p i) refl refl
    where
      of : (b n : Bool) → is_inode (put_at before p) ≡ b → is_name_of p i ≡ n → cond n (suc (further_names before p)) (further_names before p) ≡ 0
      of true n is counts = absurd (true≢false (sym (inode-kept p is) ∙ h))
      of false true is counts =
          let x = name-of p i counts in
          absurd (true≢false (sym (from-link before i x.0 x.1 led) ∙ ap (λ (q : Path). is_inode (put_at before q)) x.2 ∙ is))
      of false false is counts = unled p is

  -- a path that isn't the new one
  pub is-other : (p : Path) → same_path (name ∷ path) p ≡ false → p ≢ name ∷ path
  is-other p off e = both_ways (same_path (name ∷ path) p) off ((paths_tell (name ∷ path) p).1 (sym e))

-- a further name leads somewhere, and nothing else is counted as a name
plain-leads : (before : List Entry) (i : Item) → is_further (Some i) ≡ false → leads before i ≡ true
plain-leads before (put.Object o) h = refl
plain-leads before put.Whiteout h = refl
plain-leads before (put.Link to) h = absurd (true≢false h)

plain-name : (i : Item) → is_further (Some i) ≡ false → (q : Path) → is_name_of q i ≡ false
plain-name (put.Object o) h q = refl
plain-name put.Whiteout h q = refl
plain-name (put.Link to) h q = absurd (true≢false h)

-- one more entry is placed, which is no further name
module _ (old new : Layer) (a : Attributes) (set : Bool) (before : List Entry) (name : Name) (path : Path) (i : Item) (d : IsDraft old a set before) (none : is_some (put_at before (name ∷ path)) ≡ false) (plain : is_further (Some i) ≡ false) (layer : IsLayer new) (p : Puts old new (name ∷ path) i) where
  led : leads before i ≡ true
  led = plain-leads before i plain

  same-count : (q : Path) → further_names ((name ∷ path, i) ∷ before) q ≡ further_names before q
  same-count q = ap (λ (b : Bool). cond b (suc (further_names before q)) (further_names before q)) (plain-name i plain q)

  some-inode-off : (o : Option Item) → is_some o ≡ false → is_inode o ≡ false
  some-inode-off None h = refl
  some-inode-off (Some x) h = absurd (true≢false h)

  vacant : is_some (held old (name ∷ path)) ≡ false
  vacant = name-there old a set before d name path ∙ none

  kept-there : (q : Path) → is_some (held old q) ≡ true → held new q ≡ held old q
  kept-there q some = p.elsewhere q (λ e. true≢false (sym some ∙ ap (λ (x : Path). is_some (held old x)) e ∙ vacant))

  below : (n : Name) (q : Path) → Stands new (suc (further_names ((name ∷ path, i) ∷ before) (n ∷ q))) (held new (n ∷ q)) (put_at ((name ∷ path, i) ∷ before) (n ∷ q))
  below n q = subst (λ (k : ℕ). Stands new (suc k) (held new (n ∷ q)) (put_at ((name ∷ path, i) ∷ before) (n ∷ q))) (sym (same-count (n ∷ q))) (at (cases_Bool (same_path (name ∷ path) (n ∷ q))))
    where
      at : (same_path (name ∷ path) (n ∷ q) ≡ true) ⊎ (same_path (name ∷ path) (n ∷ q) ≡ false) → Stands new (suc (further_names before (n ∷ q))) (held new (n ∷ q)) (put_at ((name ∷ path, i) ∷ before) (n ∷ q))
      at (inl same) =
          let is : name ∷ path ≡ n ∷ q = (paths_tell (name ∷ path) (n ∷ q)).0 same in
          let zero : 0 ≡ further_names before (n ∷ q) = sym (ap (further_names before) (sym is) ∙ d.unled (name ∷ path) (some-inode-off (put_at before (name ∷ path)) none)) in
          subst (λ (x : Option Item). Stands new (suc (further_names before (n ∷ q))) (held new (n ∷ q)) x) (sym (put-here before name path i none led (n ∷ q) same))
          (subst (λ (k : ℕ). Stands new (suc k) (held new (n ∷ q)) (Some i)) zero
          (subst (λ (x : Path). Stands new 1 (held new x) (Some i)) is p.there))
      at (inr off) =
          subst (λ (x : Option Item). Stands new (suc (further_names before (n ∷ q))) (held new (n ∷ q)) x) (sym (put-beside before name path i none led (n ∷ q) off))
          (subst (λ (o : Option Object). Stands new (suc (further_names before (n ∷ q))) o (put_at before (n ∷ q))) (sym (p.elsewhere (n ∷ q) (is-other before name path i none led (n ∷ q) off)))
          (stands-kept old new p.inodes kept-there (suc (further_names before (n ∷ q))) (held old (n ∷ q)) (put_at before (n ∷ q)) (d.below n q)))

  -- the new inode is none of those before
  unmet : (r s : Path) (key : ℕ) → name ∷ path ≡ r → same_path (name ∷ path) s ≡ false → held new r ≡ Some (Named key) → held new s ≡ Some (Named key) → ⊥
  unmet r s key is off here there =
      let fresh : old.inodes key ≡ None = p.fresh key (ap (held new) is ∙ here) in
      let present = d.layer.present s key (sym (p.elsewhere s (is-other before name path i none led s off)) ∙ there) in
      true≢false (sym present ∙ ap (λ (x : Option Inode). is_some x) fresh)

  apart : HoldsApart new ((name ∷ path, i) ∷ before)
  apart r s key f g here there = at (cases_Bool (same_path (name ∷ path) r)) (cases_Bool (same_path (name ∷ path) s))
    where
      at : (same_path (name ∷ path) r ≡ true) ⊎ (same_path (name ∷ path) r ≡ false) → (same_path (name ∷ path) s ≡ true) ⊎ (same_path (name ∷ path) s ≡ false) → r ≡ s
      at (inl x) (inl y) = sym ((paths_tell (name ∷ path) r).0 x) ∙ (paths_tell (name ∷ path) s).0 y
      at (inl x) (inr y) = absurd (unmet r s key ((paths_tell (name ∷ path) r).0 x) y here there)
      at (inr x) (inl y) = absurd (unmet s r key ((paths_tell (name ∷ path) s).0 y) x there here)
      at (inr x) (inr y) =
          d.apart r s key
          (sym (ap (λ (o : Option Item). is_inode o) (put-beside before name path i none led r x)) ∙ f)
          (sym (ap (λ (o : Option Item). is_inode o) (put-beside before name path i none led s y)) ∙ g)
          (sym (p.elsewhere r (is-other before name path i none led r x)) ∙ here)
          (sym (p.elsewhere s (is-other before name path i none led s y)) ∙ there)

  pub placed : IsDraft new a set ((name ∷ path, i) ∷ before)
  placed = record {
    layer = layer;
    root = root-same old new (p.elsewhere [] (λ e. cc)) ∙ d.root;
    set = d.set;
    below = below;
    apart = apart;
    lead = lead-on before name path i none led d.lead;
    unled = unled-on before name path i none led d.unled;
  }

-- a further name is placed
module _ (old new : Layer) (a : Attributes) (set : Bool) (before : List Entry) (name : Name) (path to : Path) (d : IsDraft old a set before) (none : is_some (put_at before (name ∷ path)) ≡ false) (led : leads before (put.Link (Some to)) ≡ true) (layer : IsLayer new) (p : PutsName old new (name ∷ path) to) where
  abbrev i : Item
  i = put.Link (Some to)

  was-inode : is_inode (put_at before to) ≡ true
  was-inode = from-leads before to led

  kept-held : (q : Path) (k : ℕ) → held old q ≡ Some (Named k) → held new q ≡ Some (Named k)
  kept-held q k h = p.elsewhere q (λ e. let no : held old q ≡ None = ap (held old) e ∙ p.vacant in cc) ∙ h

  one-number : (j k : ℕ) → Some (Named j) ≡ Some (Named k) → j ≡ k
  one-number j k e = cc

  -- what stands beside the new name goes on standing, and its inode has one name more where the new name leads to it
  beside : (n : Name) (q : Path) → n ∷ q ≢ name ∷ path → (x : Option Item) → put_at before (n ∷ q) ≡ x → Stands old (suc (further_names before (n ∷ q))) (held old (n ∷ q)) x → Stands new (suc (further_names ((name ∷ path, i) ∷ before) (n ∷ q))) (held new (n ∷ q)) x
  beside n q off None is h = p.elsewhere (n ∷ q) off ∙ h
  beside n q off (Some put.Whiteout) is h = p.elsewhere (n ∷ q) off ∙ h
  beside n q off (Some (put.Object (object.Directory b m))) is h = (h.0, p.elsewhere (n ∷ q) off ∙ h.1)
  beside n q off (Some (put.Object (object.Marked t b))) is h = h
  beside n q off (Some (put.Link None)) is h = h
  beside n q off (Some (put.Link (Some t))) is h = (h.0, p.elsewhere (n ∷ q) off ∙ h.1, kept-held t h.0 h.2)
  beside n q off (Some (put.Object (object.Inode c b))) is h = (h.0, p.elsewhere (n ∷ q) off ∙ h.1, counts (cases_Bool (same_path to (n ∷ q))))
    where
      with_names : ℕ → Inode
      with_names k = record { content = c; attributes = b; links = k; mark = None }

      counts : (same_path to (n ∷ q) ≡ true) ⊎ (same_path to (n ∷ q) ≡ false) → new.inodes h.0 ≡ Some (with_names (suc (cond (same_path to (n ∷ q)) (suc (further_names before (n ∷ q))) (further_names before (n ∷ q)))))
      counts (inl same) =
          let here : to ≡ n ∷ q = (paths_tell to (n ∷ q)).0 same in
          let key : h.0 ≡ p.key = one-number h.0 p.key (sym h.1 ∙ ap (held old) (sym here) ∙ p.led) in
          ap new.inodes key ∙ p.more ∙ ap (option_map with_more) (ap old.inodes (sym key) ∙ h.2)
          ∙ ap (λ (k : ℕ). Some (with_names k)) (add-one (suc (further_names before (n ∷ q))))
          ∙ ap (λ (s : Bool). Some (with_names (suc (cond s (suc (further_names before (n ∷ q))) (further_names before (n ∷ q)))))) (sym same)
      counts (inr differs) =
          let apart : h.0 ≢ p.key = λ e. both_ways (same_path to (n ∷ q)) differs ((paths_tell to (n ∷ q)).1 (d.apart to (n ∷ q) p.key was-inode (ap (λ (o : Option Item). is_inode o) is) p.led (h.1 ∙ ap (λ (k : ℕ). Some (Named k)) e))) in
          p.inodes h.0 apart ∙ h.2
          ∙ ap (λ (s : Bool). Some (with_names (suc (cond s (suc (further_names before (n ∷ q))) (further_names before (n ∷ q)))))) (sym differs)

  below-name : (n : Name) (q : Path) → Stands new (suc (further_names ((name ∷ path, i) ∷ before) (n ∷ q))) (held new (n ∷ q)) (put_at ((name ∷ path, i) ∷ before) (n ∷ q))
  below-name n q = at (cases_Bool (same_path (name ∷ path) (n ∷ q)))
    where
      at : (same_path (name ∷ path) (n ∷ q) ≡ true) ⊎ (same_path (name ∷ path) (n ∷ q) ≡ false) → Stands new (suc (further_names ((name ∷ path, i) ∷ before) (n ∷ q))) (held new (n ∷ q)) (put_at ((name ∷ path, i) ∷ before) (n ∷ q))
      at (inl same) =
          let is : name ∷ path ≡ n ∷ q = (paths_tell (name ∷ path) (n ∷ q)).0 same in
          subst (λ (x : Option Item). Stands new (suc (further_names ((name ∷ path, i) ∷ before) (n ∷ q))) (held new (n ∷ q)) x) (sym (put-here before name path i none led (n ∷ q) same))
          (p.key, ap (held new) (sym is) ∙ p.there, kept-held to p.key p.led)
      at (inr off) =
          subst (λ (x : Option Item). Stands new (suc (further_names ((name ∷ path, i) ∷ before) (n ∷ q))) (held new (n ∷ q)) x) (sym (put-beside before name path i none led (n ∷ q) off))
          (beside n q (is-other before name path i none led (n ∷ q) off) (put_at before (n ∷ q)) refl (d.below n q))

  -- where a file or symbolic link is put, none was put but before
  put-before : (q : Path) → is_inode (put_at ((name ∷ path, i) ∷ before) q) ≡ true → same_path (name ∷ path) q ≡ false
  put-before q h = elim (cases_Bool (same_path (name ∷ path) q)) [
    | inl same ↦ absurd (true≢false (sym h ∙ ap (λ (o : Option Item). is_inode o) (put-here before name path i none led q same)))
    | inr off ↦ off
  ]

  apart-name : HoldsApart new ((name ∷ path, i) ∷ before)
  apart-name r s key f g here there =
      let x = put-before r f in
      let y = put-before s g in
      d.apart r s key
      (sym (ap (λ (o : Option Item). is_inode o) (put-beside before name path i none led r x)) ∙ f)
      (sym (ap (λ (o : Option Item). is_inode o) (put-beside before name path i none led s y)) ∙ g)
      (sym (p.elsewhere r (is-other before name path i none led r x)) ∙ here)
      (sym (p.elsewhere s (is-other before name path i none led s y)) ∙ there)

  pub placed-name : IsDraft new a set ((name ∷ path, i) ∷ before)
  placed-name = record {
    layer = layer;
    root = root-same old new (p.elsewhere [] (λ e. cc)) ∙ d.root;
    set = d.set;
    below = below-name;
    apart = apart-name;
    lead = lead-on before name path i none led d.lead;
    unled = unled-on before name path i none led d.unled;
  }

-- whether an item leads somewhere is the same in the layer and among the entries
pub leads-same : (L : Layer) (a : Attributes) (set : Bool) (before : List Entry) → IsDraft L a set before → (i : Item) (to_further : Bool) → Tells before i to_further → leads_in L to_further i ≡ leads before i
leads-same L a set before d (put.Object o) to_further tells = refl
leads-same L a set before d put.Whiteout to_further tells = refl
leads-same L a set before d (put.Link None) to_further tells = refl
leads-same L a set before d (put.Link (Some [])) to_further tells = refl
leads-same L a set before d (put.Link (Some (n ∷ p))) to_further tells = ap (λ (b : Bool). is_named (held L (n ∷ p)) && not b) tells ∙ of (put_at before (n ∷ p)) (d.below n p)
  where
    of : (x : Option Item) → Stands L (suc (further_names before (n ∷ p))) (held L (n ∷ p)) x → (is_named (held L (n ∷ p)) && not (is_further x)) ≡ is_inode x
    of None h = ap (λ (o : Option Object). is_named o && true) h
    of (Some put.Whiteout) h = ap (λ (o : Option Object). is_named o && true) h
    of (Some (put.Object (object.Directory b m))) h = ap (λ (o : Option Object). is_named o && true) h.1
    of (Some (put.Object (object.Inode c b))) h = ap (λ (o : Option Object). is_named o && true) h.1
    of (Some (put.Object (object.Marked q b))) h = absurd h
    of (Some (put.Link None)) h = absurd h
    of (Some (put.Link (Some t))) h = ap (λ (o : Option Object). is_named o && false) h.1

-- WHAT CAME TO A FREE NAME is one more entry, or at fault
pub planted : (set : Bool) (old new : Layer) (a : Attributes) (before : List Entry) (name : Name) (path : Path) (i : Item) (to_further : Bool) (r : Result (Unit {0}) EntryError) → IsDraft old a set before → Tells before i to_further → has_directory before path ≡ true → is_some (put_at before (name ∷ path)) ≡ false → IsLayer new → Plants old new (name ∷ path) to_further i r → Places {T = Unit {0}} (λ _. set) new a (with_entry before (name ∷ path) i) r
planted set old new a before name path i to_further (Ok u) d tells parent none layer h =
    let onward : leads before i ≡ true = sym (leads-same old a set before d i to_further tells) ∙ h.0 in
    ((name ∷ path, i) ∷ before, placed-or-link before name path i true parent none onward, draft i onward h.1)
  where
    draft : (i : Item) → leads before i ≡ true → Comes old new (name ∷ path) i → IsDraft new a set ((name ∷ path, i) ∷ before)
    draft (put.Object o) l c = placed old new a set before name path (put.Object o) d none refl layer c
    draft put.Whiteout l c = placed old new a set before name path put.Whiteout d none refl layer c
    draft (put.Link None) l c = absurd c
    draft (put.Link (Some to)) l c = placed-name old new a set before name path to d none l layer c
planted set old new a before name path i to_further (Err (error.Fault f)) d tells parent none layer h =
    placed-or-link before name path i false parent none (sym (leads-same old a set before d i to_further tells) ∙ h.1) ∙ ap (λ (g : EntryFault). Err g) (sym h.0)
planted set old new a before name path i to_further (Err (error.Memory e)) d tells parent none layer h = tt

-- an entry as it is spelled
pub spelled-is : (limit : ℕ) (blobs : List (List ℕ)) (before : List Entry) (d : Data) (m : Members) (p : Path) (i : Item) → as_table d ≡ Some m → read limit blobs m ≡ Ok (p, i) → with_spelled limit blobs before d ≡ with_entry before p i
spelled-is limit blobs before d m p i t r =
    ap (λ (o : Option Members). and_then (ok_or o fault.Kind) (λ m. and_then (read limit blobs m) (λ e. with_entry before e.0 e.1))) t
    ∙ ap (λ (x : Result (Path × Item) EntryFault). and_then x (λ e. with_entry before e.0 e.1)) r

abbrev checked : Bool → Result (Unit {0}) EntryFault
checked b = cond b (Ok tt) (Err fault.Exists)

-- no further name leads to the root
rootless : (L : Layer) (a : Attributes) (set : Bool) (before : List Entry) → IsDraft L a set before → (n : Name) (p : Path) → put_at before (n ∷ p) ≡ Some (put.Link (Some [])) → ⊥
rootless L a set before d n p e = of (subst (λ (x : Option Item). Stands L (suc (further_names before (n ∷ p))) (held L (n ∷ p)) x) e (d.below n p))
  where
    of : Stands L (suc (further_names before (n ∷ p))) (held L (n ∷ p)) (Some (put.Link (Some []))) → ⊥
    of h = let no : held L [] ≡ Some (Named h.0) = h.2 in cc

-- a directory at `/`, where nothing was put
root-draft : (L : Layer) (a b : Attributes) (m : Marks) (before : List Entry) → IsDraft L a false before → IsDraft L a true (([], put.Object (object.Directory b m)) ∷ before)
root-draft L a b m before d = record {
  layer = d.layer;
  root = d.root;
  set = refl;
  below = d.below;
  apart = apart;
  lead = lead;
  unled = unled;
}
  where
    after : List Entry
    after = ([], put.Object (object.Directory b m)) ∷ before

    apart : HoldsApart L after
    apart [] q key f g here there = absurd (true≢false (sym f))
    apart (n ∷ p) [] key f g here there = absurd (true≢false (sym g))
    apart (n ∷ p) (k ∷ q) key f g here there = d.apart (n ∷ p) (k ∷ q) key f g here there

    lead : LeadOn after
    lead [] to e = absurd (cc)
    lead (n ∷ p) [] e = absurd (rootless L a false before d n p e)
    lead (n ∷ p) (k ∷ to) e = d.lead (n ∷ p) (k ∷ to) e

    free : (x : Option Item) → is_some x ≡ false → is_inode x ≡ false
    free None e = refl
    free (Some y) e = absurd (true≢false e)

    unled : (p : Path) → is_inode (put_at after p) ≡ false → further_names after p ≡ 0
    unled [] h = d.unled [] (free (put_at before []) (sym d.set))
    unled (n ∷ p) h = d.unled (n ∷ p) h

-- the first directory at `/`
pub root-entry : (L : Layer) (a : Attributes) (set : Bool) (before : List Entry) (i : Item) → IsDraft L a set before → checked (is_directory (Some i) && not set) ≡ Ok tt → (after : List Entry) × (with_entry before [] i ≡ Ok after) × IsDraft L a true after
root-entry L a true before i d h = absurd (of (is_directory (Some i)) h)
  where
    of : (b : Bool) → checked (b && false) ≡ Ok tt → ⊥
    of true h = cc
    of false h = cc
root-entry L a false before put.Whiteout d h = absurd (cc)
root-entry L a false before (put.Link to) d h = absurd (cc)
root-entry L a false before (put.Object (object.Inode c b)) d h = absurd (cc)
root-entry L a false before (put.Object (object.Marked q b)) d h = absurd (cc)
root-entry L a false before (put.Object (object.Directory b m)) d h =
    (([], put.Object (object.Directory b m)) ∷ before, ap (λ s. cond (not s) (Ok (([], put.Object (object.Directory b m)) ∷ before)) (Err fault.Exists)) (sym d.set), root-draft L a b m before d)

-- a fault stays one, whatever else might have been answered
pub err-same : {T U : Type 0} (s : T → Bool) (r : U → Bool) (L : Layer) (a : Attributes) (w : Result (List Entry) EntryFault) (e : EntryError) → Places s L a w (Err e) → Places r L a w (Err e)
err-same s r L a w (error.Fault f) h = h
err-same s r L a w (error.Memory m) h = h

pub none-of : {T : Type 0} (o : Option T) → is_some o ≡ false → o ≡ None
none-of None h = refl
none-of (Some x) h = absurd (true≢false h)

-- one more entry, where it is not at fault
pub placed-is : (before : List Entry) (p : Path) (i : Item) (after : List Entry) → with_entry before p i ≡ Ok after → (p, i) ∷ before ≡ after
placed-is before [] i after e = of (is_directory (Some i)) (is_some (put_at before [])) e
  where
    of : (d s : Bool) → cond (d && not s) (Ok (([], i) ∷ before)) (Err fault.Exists) ≡ Ok after → ([], i) ∷ before ≡ after
    of true false e = cc
    of true true e = absurd (cc)
    of false s e = absurd (cc)
placed-is before (n ∷ p) i after e = of (has_directory before p) (is_some (put_at before (n ∷ p))) (leads before i) e
  where
    of : (d s l : Bool) → cond (not d) (Err fault.Parent) (cond s (Err fault.Exists) (cond (not l) (Err fault.Link) (Ok ((n ∷ p, i) ∷ before)))) ≡ Ok after → (n ∷ p, i) ∷ before ≡ after
    of true false true e = cc
    of true false false e = absurd (cc)
    of true true l e = absurd (cc)
    of false s l e = absurd (cc)

-- nothing was put there before
pub was-free : (before : List Entry) (p : Path) (i : Item) (after : List Entry) → with_entry before p i ≡ Ok after → is_some (put_at before p) ≡ false
was-free before [] i after e = of (is_directory (Some i)) (is_some (put_at before [])) e
  where
    of : (d s : Bool) → cond (d && not s) (Ok (([], i) ∷ before)) (Err fault.Exists) ≡ Ok after → s ≡ false
    of true false e = refl
    of true true e = absurd (cc)
    of false s e = absurd (cc)
was-free before (n ∷ p) i after e = of (has_directory before p) (is_some (put_at before (n ∷ p))) (leads before i) e
  where
    of : (d s l : Bool) → cond (not d) (Err fault.Parent) (cond s (Err fault.Exists) (cond (not l) (Err fault.Link) (Ok ((n ∷ p, i) ∷ before)))) ≡ Ok after → s ≡ false
    of true false l e = refl
    of true true l e = absurd (cc)
    of false s l e = absurd (cc)

-- a layer of nothing but its root
pub draft-first : (L : Layer) (a : Attributes) → IsLayer L → held L [] ≡ Some (Directory 0 a false None) → ((name : Name) (path : Path) → held L (name ∷ path) ≡ None) → IsDraft L a false []
draft-first L a layer root nothing = record {
  layer = layer;
  root = cc;
  set = refl;
  below = λ n p. nothing n p;
  apart = λ p q key f g here there. absurd (true≢false (sym f));
  lead = λ p to e. absurd (cc);
  unled = λ p h. refl;
}
