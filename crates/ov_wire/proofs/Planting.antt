-- What a layer of a tree holds after an object or a whiteout came to a name at which nothing was.
use Rattle.std.proofs.Common.{◌≡◌, ◌≢◌, ◌⊎◌, inl, inr, ℕ, Bool, true, false, not, ◌&&◌, List, [], ◌∷◌, ◌++◌, Option, Some, None, is_some, reverse, refl, sym, ap, subst, ◌∙◌, true≢false}
use Rattle.std.specs.Option.{option_and_then}
use Rattle.std.proofs.lemmas.List.{reverse-reverse}
use Rattle.plain_model.specs.Layers as layers
use Rattle.plain_model.specs.Layers.{Name, Path, Object, Layer, Inode, IsLayer, held, holds_directory}
use Rattle.plain_model.proofs.Paths.{place}
use Rattle.layer_tree.specs.Table.{object_key}
use Rattle.layer_tree.specs.Tree.{Tree, ROOT, inode_of, entry, entry_at, child, key_at, seen_at, seen_entry, seen_object, new_inode, inode_at, layer_of, IsTree, IsUnmarked, IsDirectory, HoldsNoObjects, SetsPath, CoversPath, Inserts, Unbinds}
use Rattle.layer_tree.specs.declared.name_table.Entry.{Entry}
use Rattle.layer_tree.specs.declared.name_table.Entry.TheVariants as to
use Rattle.layer_tree.specs.declared.node.Object.{Object as NewObject}
use Rattle.layer_tree.specs.declared.node.Object.TheVariants as object
use Rattle.layer_tree.proofs.Changing.{key_of_entry, kind_seen, presence_seen}
use Rattle.layer_tree.proofs.Following.{follow, follow-path}
use Rattle.ov_wire.specs.ManifestEntries.{is_marked}
use Rattle.ov_wire.specs.ManifestLayers.{Stands}
use Rattle.ov_wire.specs.Drafts.{Puts, PutsName, is_named, leads_in}
use Rattle.layer_tree.specs.Link.{Links}
use Rattle.ov_wire.specs.declared.manifest.entry.Item.TheVariants as put

-- what is held at a name in the directory under a key
held-entry : (t : Tree) (path : Path) (dir : ℕ) (name : Name) → key_at t path ≡ Some dir → held (layer_of t) (name ∷ path) ≡ option_and_then (seen_entry t) (entry t dir name)
held-entry t path dir name at = ap (λ (o : Option ℕ). option_and_then (seen_entry t) (option_and_then (λ key. entry t key name) o)) at

-- a name without an entry holds nothing
pub name-free : (t : Tree) (path : Path) (dir : ℕ) (name : Name) → key_at t path ≡ Some dir → entry t dir name ≡ None → held (layer_of t) (name ∷ path) ≡ None
name-free t path dir name at none = held-entry t path dir name at ∙ ap (option_and_then (seen_entry t)) none

-- a name with an entry holds something
pub name-bound : (t : Tree) → IsTree t → (path : Path) (dir : ℕ) (name : Name) (e : Entry) → key_at t path ≡ Some dir → entry t dir name ≡ Some e → is_some (held (layer_of t) (name ∷ path)) ≡ true
name-bound t tree path dir name e at is = ap (λ (o : Option Object). is_some o) (held-entry t path dir name at ∙ ap (option_and_then (seen_entry t)) is) ∙ seen e is
  where
    seen : (e : Entry) → entry t dir name ≡ Some e → is_some (seen_entry t e) ≡ true
    seen to.Whiteout is = refl
    seen (to.Object key) is = sym (presence_seen t key) ∙ tree.present dir name key (ap (option_and_then object_key) is)

-- the same by a test
pub name-taken : (t : Tree) → IsTree t → (path : Path) (dir : ℕ) (name : Name) → key_at t path ≡ Some dir → is_some (entry t dir name) ≡ true → is_some (held (layer_of t) (name ∷ path)) ≡ true
name-taken t tree path dir name at there = of (entry t dir name) refl there
  where
    of : (o : Option Entry) → entry t dir name ≡ o → is_some o ≡ true → is_some (held (layer_of t) (name ∷ path)) ≡ true
    of None e h = absurd (true≢false (sym h))
    of (Some x) e h = name-bound t tree path dir name x at e

-- nothing stands in what isn't there
pub no-objects : (t : Tree) (dir : ℕ) (name : Name) → entry t dir name ≡ None → HoldsNoObjects t dir name
no-objects t dir name none key led n = let free : child t dir name ≡ None = ap (option_and_then object_key) none in absurd (cc)

-- nothing is held below a path at which nothing is
nothing-below : (L : Layer) → IsLayer L → (p : Path) → held L p ≡ None → (r : Path) → held L (r ++ p) ≡ None
nothing-below L layer p none [] = none
nothing-below L layer p none (m ∷ r) = of (held L (m ∷ (r ++ p))) refl (nothing-below L layer p none r)
  where
    of : (o : Option Object) → held L (m ∷ (r ++ p)) ≡ o → held L (r ++ p) ≡ None → held L (m ∷ (r ++ p)) ≡ None
    of None e above = e
    of (Some x) e above =
        let parent = layer.parents m (r ++ p) (ap (λ (o : Option Object). is_some o) e) in
        absurd (true≢false (sym parent ∙ ap holds_directory above))

-- an object came
pub puts-object : (old new : Tree) (dir : ℕ) (name : Name) (path : Path) (o : NewObject) (key : ℕ) → is_marked o ≡ false → SetsPath (layer_of old) (layer_of new) (name ∷ path) (seen_object key o) → Inserts old new dir name o key → Puts (layer_of old) (layer_of new) (name ∷ path) (put.Object o)
puts-object old new dir name path o key own s i = record {
  there = there o own s.there i.inode;
  fresh = λ k h. fresh o k (sym s.there ∙ h);
  elsewhere = s.elsewhere;
  inodes = λ k x is. i.inodes k (λ same. absurd (lost k x is same)) ∙ is;
}
  where
    there : (o : NewObject) → is_marked o ≡ false → held (layer_of new) (name ∷ path) ≡ Some (seen_object key o) → inode_at new key ≡ new_inode o → Stands (layer_of new) 1 (held (layer_of new) (name ∷ path)) (Some (put.Object o))
    there (object.Directory a m) own h is = (key, h)
    there (object.Inode c a) own h is = (key, h, is)
    there (object.Marked q a) own h is = absurd (true≢false own)

    none : inode_at old key ≡ None
    none = ap (option_and_then inode_of) i.fresh

    fresh : (o : NewObject) (k : ℕ) → Some (seen_object key o) ≡ Some (layers.Named k) → inode_at old k ≡ None
    fresh (object.Directory a m) k e = absurd (cc)
    fresh (object.Inode c a) k e = let same : key ≡ k = cc in ap (inode_at old) (sym same) ∙ none
    fresh (object.Marked q a) k e = let same : key ≡ k = cc in ap (inode_at old) (sym same) ∙ none

    lost : (k : ℕ) (x : Inode) → inode_at old k ≡ Some x → k ≡ key → ⊥
    lost k x is same =
        let no : inode_at old key ≡ None = none in
        let there : inode_at old key ≡ Some x = subst (λ j. inode_at old j ≡ Some x) same is in
        cc

-- a whiteout came
pub puts-whiteout : (old new : Tree) (dir : ℕ) (name : Name) (path : Path) → IsLayer (layer_of old) → key_at old path ≡ Some dir → entry old dir name ≡ None → CoversPath (layer_of old) (layer_of new) (name ∷ path) → Unbinds old new dir name (Some to.Whiteout) → Puts (layer_of old) (layer_of new) (name ∷ path) put.Whiteout
puts-whiteout old new dir name path layer at none c u = record {
  there = c.there;
  fresh = λ k h. let no : Some layers.Whiteout ≡ Some (layers.Named k) = sym c.there ∙ h in absurd (cc);
  elsewhere = λ other off. elsewhere other off (place (name ∷ path) other);
  inodes = λ k x is. u.inodes k (λ led. absurd (unled k led)) ∙ is;
}
  where
    unled : (k : ℕ) → child old dir name ≡ Some k → ⊥
    unled k led = let free : child old dir name ≡ None = ap (option_and_then object_key) none in cc

    elsewhere : (other : Path) → other ≢ name ∷ path → ((s : Path) × (other ≡ s ++ (name ∷ path))) ⊎ ((s : Path) → other ≢ s ++ (name ∷ path)) → held (layer_of new) other ≡ held (layer_of old) other
    elsewhere other off (inr apart) = c.elsewhere other apart
    elsewhere other off (inl ([], e)) = absurd (off e)
    elsewhere other off (inl (m ∷ r, e)) =
        subst (λ x. held (layer_of new) x ≡ held (layer_of old) x) (sym e)
        (c.below m r ∙ sym (nothing-below (layer_of old) layer (name ∷ path) (name-free old path dir name at none) (m ∷ r)))

-- a further name came
pub puts-name : (old new : Tree) (dir key : ℕ) (name : Name) (path to : Path) → key_at old path ≡ Some dir → entry old dir name ≡ None → held (layer_of old) to ≡ Some (layers.Named key) → SetsPath (layer_of old) (layer_of new) (name ∷ path) (layers.Named key) → Links old new dir name key → PutsName (layer_of old) (layer_of new) (name ∷ path) to
puts-name old new dir key name path to at none led s l = record {
  key = key;
  led = led;
  vacant = name-free old path dir name at none;
  there = s.there;
  elsewhere = s.elsewhere;
  more = l.linked;
  inodes = l.inodes;
}

-- it leads somewhere
pub leads-somewhere : (L : Layer) (to_further : Bool) (to : Path) (key : ℕ) → to_further ≡ false → held L to ≡ Some (layers.Named key) → leads_in L to_further (put.Link (Some to)) ≡ true
leads-somewhere L to_further [] key none h = absurd (cc)
leads-somewhere L to_further (n ∷ p) key none h = ap (λ (b : Bool). is_named (held L (n ∷ p)) && not b) none ∙ ap (λ (o : Option Object). is_named o && true) h

-- whether an entry is that of a directory
abbrev pub leads_to_directory : Tree → Option Entry → Bool
leads_to_directory t (Some (to.Object key)) = holds_directory (seen_at t key)
leads_to_directory t _ = false

-- a layer holds a directory where a path leads to one
pub held-directory : (t : Tree) → IsTree t → (p : Path) → holds_directory (held (layer_of t) p) ≡ leads_to_directory t (entry_at t p)
held-directory t tree [] = sym (unmarked (seen_at t ROOT) tree.root)
  where
    unmarked : (o : Option Object) → IsUnmarked o → holds_directory o ≡ true
    unmarked None h = absurd h
    unmarked (Some (layers.Directory k a o r)) h = refl
    unmarked (Some (layers.Named k)) h = absurd h
    unmarked (Some layers.Whiteout) h = absurd h
held-directory t tree (n ∷ p) = of (entry_at t (n ∷ p))
  where
    of : (e : Option Entry) → holds_directory (option_and_then (seen_entry t) e) ≡ leads_to_directory t e
    of None = refl
    of (Some to.Whiteout) = refl
    of (Some (to.Object key)) = refl

-- a path that leads to a directory holds one
pub leads-there : (t : Tree) → IsTree t → (p : Path) (key : ℕ) → key_at t p ≡ Some key → IsDirectory t key → holds_directory (held (layer_of t) p) ≡ true
leads-there t tree p key at is = held-directory t tree p ∙ of (entry_at t p) (sym (key_of_entry t p) ∙ at)
  where
    of : (o : Option Entry) → option_and_then object_key o ≡ Some key → leads_to_directory t o ≡ true
    of None e = absurd (cc)
    of (Some to.Whiteout) e = absurd (cc)
    of (Some (to.Object j)) e =
        let same : j ≡ key = cc in
        ap (λ (k : ℕ). holds_directory (seen_at t k)) same ∙ sym (kind_seen t key) ∙ is

-- names after a whiteout lead to no directory
pub past-whiteout : (t : Tree) (names : List Name) → leads_to_directory t (follow t to.Whiteout names) ≡ false
past-whiteout t [] = refl
past-whiteout t (n ∷ names) = refl

-- the names from the root down lead to what stands at the path
pub follow-names : (t : Tree) (names : List Name) → follow t (to.Object ROOT) names ≡ entry_at t (reverse names)
follow-names t names = ap (follow t (to.Object ROOT)) (sym (reverse-reverse names)) ∙ follow-path t (reverse names)
