-- A name that is bound anew, or no more: what the steps of an insert and of a removal come to.
use Rattle.std.proofs.Common.{◌≡◌, ◌≢◌, ◌⊎◌, ℕ, ◌+◌, ◌-◌, ◌<◌, ◌≤◌, List, [], ◌∷◌, length, Option, Some, None, false, IsSome, IsTrue, is_some, refl, sym, ap, subst, ◌∙◌, inl, inr, arith, true≢false}
use Rattle.std.specs.Option.{option_and_then, option_map_or}
use Rattle.std.specs.Prelude.{option_map}
use Rattle.std.specs.FinMap as map
use Rattle.std.specs.FinMap.{get-empty}
use Rattle.std.specs.Ordering.{nat_cmp}
use Rattle.std.specs.Cmp.Lexicographic.{slice_cmp}
use Rattle.std.proofs.lemmas.Bool.{cases_eq}
use Rattle.slab.specs.Slab.{get, Updates}
use Rattle.ov_base.specs.declared.bytes.Content.TheVariants as content
use Rattle.plain_model.specs.Layers as layers
use Rattle.plain_model.specs.Layers.{Path}
use Rattle.layer_tree.specs.Walk.{Rebinds}
use Rattle.layer_tree.specs.Places.{Listed, StandsAt, HasNames}
use Rattle.layer_tree.specs.Table.{Table, NameMap, entry_in, object_key}
use Rattle.layer_tree.specs.Tree.{Tree, table_of, inode_of, seen, seen_object, new_inode, entry, child, seen_at, inode_at, names_room, leads_on, with_less, key_at, layer_of, IsDirectory, IsTree, Inserts, Unbinds, SetsPath, ReplacesPath, ClearsPath, CoversPath, SameTree, SameObjects}
use Rattle.layer_tree.specs.Change.{IsPlanted, Retables, Unlinks, IsCounted}
use Rattle.layer_tree.specs.declared.name_table.Entry.{Entry}
use Rattle.layer_tree.specs.declared.name_table.Entry.TheVariants as to
use Rattle.layer_tree.specs.declared.node.Node.{Node}
use Rattle.layer_tree.specs.declared.node.Node.TheVariants as node
use Rattle.layer_tree.specs.declared.node.Object.{Object}
use Rattle.layer_tree.specs.declared.node.Object.TheVariants as object
use Rattle.layer_tree.proofs.Tables.{get_put, get_other, get_gone, get_left}
use Rattle.layer_tree.proofs.Retabling.{entry_new, entry_old, entry_other, same_seen as seen_retabled, same_inode as inode_retabled, same_count, room_kept}
use Rattle.layer_tree.proofs.Unlinking.{cases_key, same_entries, same_seen, same_room, inode_less, inode_kept}
use Rattle.layer_tree.proofs.Counting.{without, length_without, StandsAt-bound, StandsAt-other, StandsAt-unbound}
use Rattle.layer_tree.proofs.Walks.{unwrapped}
use Rattle.layer_tree.proofs.Changing.{Changed, Sound, directory_is_present, same_presence, vacant_unnamed, child_rebinds, IsTree-changed, SetsPath-changed, ReplacesPath-changed}

-- a table with one entry changed
module _ (old new : Tree) (dir : ℕ) (name : List ℕ) (change : NameMap → NameMap) (used : ℕ) (r : Retables old new dir change used) (e : Option Entry) (here : (m : NameMap) → map.get (change m) name ≡ e) (others : (m : NameMap) (other : List ℕ) → other ≢ name → map.get (change m) other ≡ map.get m other) where
  pub rebinds : Rebinds (entry old) (entry new) dir name e
  rebinds =
      record {
        at = entry_new old new dir change used r name ∙ here _;
        others = λ d m apart. elim (cases_eq d dir) [
          | inl same ↦
              let kept : entry new dir m ≡ entry old dir m = entry_new old new dir change used r m ∙ others _ m (apart same) ∙ sym (entry_old old new dir change used r m) in
              subst (λ (k : ℕ). entry new k m ≡ entry old k m) (sym same) kept
          | inr away ↦ entry_other old new dir change used r d m away
        ];
      }

pub rebinds_put : (old new : Tree) (dir : ℕ) (name : List ℕ) (e : Entry) → Retables old new dir (λ m. map.insert m name e) 1 → Rebinds (entry old) (entry new) dir name (Some e)
rebinds_put old new dir name e r = rebinds old new dir name (λ m. map.insert m name e) 1 r (Some e) (λ m. get_put m name e) (λ m other. get_other m name other e)

pub rebinds_gone : (old new : Tree) (dir : ℕ) (name : List ℕ) → Retables old new dir (λ m. map.remove m name) 0 → Rebinds (entry old) (entry new) dir name None
rebinds_gone old new dir name r = rebinds old new dir name (λ m. map.remove m name) 0 r None (λ m. get_gone m name) (λ m other. get_left m name other)

-- a name that leads to no object any more, and what it led to has one name less
module _ (t0 t1 t2 : Tree) (dir : ℕ) (name : List ℕ) (change : NameMap → NameMap) (used : ℕ) (r : Retables t0 t1 dir change used) (e : Option Entry) (binds : Rebinds (entry t0) (entry t1) dir name e) (u : Unlinks t1 t2 (option_and_then object_key (entry t0 dir name))) where
  pub unbinds : Unbinds t0 t2 dir name e
  unbinds =
      record {
        binds = record {
          at = same_entries t1 t2 _ u dir name ∙ binds.at;
          others = λ d m off. same_entries t1 t2 _ u d m ∙ binds.others d m off;
        };
        seen = λ k. same_seen t1 t2 _ u k ∙ seen_retabled t0 t1 dir change used r k;
        unlinked = λ k led. inode_less t1 t2 _ u k led ∙ ap (option_map with_less) (inode_retabled t0 t1 dir change used r k);
        inodes = λ k led. inode_kept t1 t2 _ u k led ∙ inode_retabled t0 t1 dir change used r k;
      }

  pub unbinds_room : (d : ℕ) → names_room t0 d ≤ names_room t2 d + used
  unbinds_room d = let same = same_room t1 t2 _ u d in omega (arith, same, room_kept t0 t1 dir change used r d)

pub Changed-unbinds : (old new : Tree) (dir : ℕ) (name : List ℕ) (e : Option Entry) → IsTree old → IsDirectory old dir → Unbinds old new dir name e → option_and_then object_key e ≡ None → Changed old new dir name e
Changed-unbinds old new dir name e tree is_dir u no_object =
    record {
      tree = tree;
      is_dir = is_dir;
      binds = u.binds;
      leaf = λ key is n. absurd (no_key key is);
      seen_kept = λ k there. u.seen k;
    }
  where
    no_key : (key : ℕ) → e ≡ Some (to.Object key) → ⊥
    no_key key is = let some : option_and_then object_key e ≡ Some key = ap (option_and_then object_key) is in cc

-- nothing is sound to be bound
pub Sound-unbinds : (old new : Tree) (dir : ℕ) (name : List ℕ) (e : Option Entry) → IsTree old → Unbinds old new dir name e → option_and_then object_key e ≡ None → Sound old new e
Sound-unbinds old new dir name e tree u no_object =
    record {
      fresh = λ key is. absurd (no_key key is);
      redirects = λ k vacant. ap leads_on (u.seen k) ∙ tree.redirects k;
    }
  where
    no_key : (key : ℕ) → e ≡ Some (to.Object key) → ⊥
    no_key key is = let some : option_and_then object_key e ≡ Some key = ap (option_and_then object_key) is in cc

-- a planted node has no names in it, shows the object, and has one name if it is an inode
planted_empty : (o : Object) (n : Node) → IsPlanted o n → (m : List ℕ) → option_and_then (λ table. entry_in table m) (table_of n) ≡ None
planted_empty (object.Directory a marks) n p m = rw p.2 (ap (λ e. map.get e m) p.1 ∙ get-empty (slice_cmp nat_cmp) m)
planted_empty (object.Inode c a) n p m = rw p
planted_empty (object.Marked q a) n p m = rw p

planted_seen : (o : Object) (n : Node) (key : ℕ) → IsPlanted o n → seen key n ≡ seen_object key o
planted_seen (object.Directory a marks) n key p = rw p.2
planted_seen (object.Inode c a) n key p = rw p
planted_seen (object.Marked q a) n key p = rw p

planted_inode : (o : Object) (n : Node) → IsPlanted o n → inode_of n ≡ new_inode o
planted_inode (object.Directory a marks) n p = rw p.2
planted_inode (object.Inode c a) n p = rw p
planted_inode (object.Marked q a) n p = rw p

-- the redirect of an object is the same under each key
leads_same : (o : Object) (key : ℕ) → leads_on (Some (seen_object key o)) ≡ leads_on (Some (seen_object 0 o))
leads_same (object.Directory a marks) key = refl
leads_same (object.Inode c a) key = refl
leads_same (object.Marked q a) key = refl

-- a new object under a vacant key, and its name in a directory
module _ (t0 t1 t2 : Tree) (dir key : ℕ) (name : List ℕ) (o : Object) (n : Node) (is_dir : IsDirectory t0 dir) (vacant : get t0 key ≡ None) (updates : Updates t0 t1 key (Some n)) (planted : IsPlanted o n) (r : Retables t1 t2 dir (λ m. map.insert m name (to.Object key)) 1) where
  abbrev put : NameMap → NameMap
  put m = map.insert m name (to.Object key)

  is_not_key : (d : ℕ) → IsSome (get t0 d) → d ≢ key
  is_not_key d there e = true≢false (sym there ∙ ap (λ k. is_some (get t0 k)) e ∙ ap is_some vacant)

  dir_differs : dir ≢ key
  dir_differs = is_not_key dir (directory_is_present t0 dir is_dir)

  at_key : get t2 key ≡ Some n
  at_key = r.others key (λ e. dir_differs (sym e)) ∙ updates.changed

  entry_unchanged : (d : ℕ) (m : List ℕ) → entry t1 d m ≡ entry t0 d m
  entry_unchanged d m =
      elim (cases_eq d key) [
        | inl e ↦ subst (λ (k : ℕ). entry t1 k m ≡ entry t0 k m) (sym e) (none_there ∙ sym none_before)
        | inr off ↦ ap (λ x. option_and_then (λ table. entry_in table m) (option_and_then table_of x)) (updates.others d off)
      ]
    where
      none_there : entry t1 key m ≡ None
      none_there = ap (λ x. option_and_then (λ table. entry_in table m) (option_and_then table_of x)) updates.changed ∙ planted_empty o n planted m

      none_before : entry t0 key m ≡ None
      none_before = ap (λ x. option_and_then (λ table. entry_in table m) (option_and_then table_of x)) vacant

  pub inserts : Inserts t0 t2 dir name o key
  inserts =
      let bound = rebinds_put t1 t2 dir name (to.Object key) r in
      record {
        fresh = vacant;
        binds = record { at = bound.at; others = λ d m off. bound.others d m off ∙ entry_unchanged d m };
        there = ap (option_map (seen key)) at_key ∙ ap Some (planted_seen o n key planted);
        inode = ap (option_and_then inode_of) at_key ∙ planted_inode o n planted;
        empty = λ m. ap (λ x. option_and_then (λ table. entry_in table m) (option_and_then table_of x)) at_key ∙ planted_empty o n planted m;
        seen = λ k off. seen_retabled t1 t2 dir put 1 r k ∙ ap (option_map (seen k)) (updates.others k off);
        inodes = λ k off. inode_retabled t1 t2 dir put 1 r k ∙ ap (option_and_then inode_of) (updates.others k off);
      }

  pub inserts_room : (d : ℕ) → names_room t0 d ≤ names_room t2 d + 1
  inserts_room d =
      let room : Option Node → ℕ = λ (x : Option Node). option_map_or (λ (t : Table). t.spare) (option_and_then table_of x) 0 in
      let kept = room_kept t1 t2 dir put 1 r d in
      elim (cases_eq d key) [
        | inl e ↦
            let none : names_room t0 d ≡ 0 = ap (λ (k : ℕ). names_room t0 k) e ∙ ap room vacant in
            omega (arith, none)
        | inr off ↦
            let same : names_room t1 d ≡ names_room t0 d = ap room (updates.others d off) in
            omega (arith, same, kept)
      ]

  pub inserts_other_room : (d : ℕ) → d ≢ dir → names_room t0 d ≤ names_room t2 d
  inserts_other_room d away =
      let room : Option Node → ℕ = λ (x : Option Node). option_map_or (λ (t : Table). t.spare) (option_and_then table_of x) 0 in
      elim (cases_eq d key) [
        | inl e ↦
            let none : names_room t0 d ≡ 0 = ap (λ (k : ℕ). names_room t0 k) e ∙ ap room vacant in
            omega (arith, none)
        | inr off ↦
            let same : names_room t2 d ≡ names_room t0 d = ap room (r.others d away) ∙ ap room (updates.others d off) in
            omega (arith, same)
      ]

pub Changed-inserts : (old new : Tree) (dir : ℕ) (name : List ℕ) (o : Object) (key : ℕ) → IsTree old → IsDirectory old dir → Inserts old new dir name o key → Changed old new dir name (Some (to.Object key))
Changed-inserts old new dir name o key tree is_dir ins =
    record {
      tree = tree;
      is_dir = is_dir;
      binds = ins.binds;
      leaf = λ j is n. subst (λ (x : ℕ). entry new x n ≡ None) (same j is) (ins.empty n);
      seen_kept = λ k there. ins.seen k (λ e. true≢false (sym there ∙ ap (λ x. is_some (get old x)) e ∙ ap is_some ins.fresh));
    }
  where
    same : (j : ℕ) → Some (to.Object key) ≡ Some (to.Object j) → key ≡ j
    same j is = cc

pub Sound-inserts : (old new : Tree) (dir : ℕ) (name : List ℕ) (o : Object) (key : ℕ) → IsTree old → Inserts old new dir name o key → IsTrue (leads_on (Some (seen_object 0 o))) → Sound old new (Some (to.Object key))
Sound-inserts old new dir name o key tree ins leads =
    record {
      fresh = λ j is. subst (λ (x : ℕ). (get old x ≡ None) × IsSome (get new x)) (same j is) (ins.fresh, there (get new key) ins.there);
      redirects = λ k vacant. elim (cases_eq k key) [
        | inl e ↦ ap (λ (x : ℕ). leads_on (seen_at new x)) e ∙ ap leads_on ins.there ∙ leads_same o key ∙ leads
        | inr off ↦ ap leads_on (ins.seen k off) ∙ tree.redirects k
      ];
    }
  where
    same : (j : ℕ) → Some (to.Object key) ≡ Some (to.Object j) → key ≡ j
    same j is = cc

    there : (x : Option Node) → option_map (seen key) x ≡ Some (seen_object key o) → IsSome x
    there None e = absurd (true≢false (sym (ap is_some e)))
    there (Some m) e = refl

-- the names of each inode where a name doesn't lead to an object any more
links_unbinds : (old new : Tree) (dir : ℕ) (name : List ℕ) (e : Option Entry) → IsTree old → Unbinds old new dir name e → option_and_then object_key e ≡ None → (k : ℕ) (i : layers.Inode) → inode_at new k ≡ Some i → HasNames (child new) k i.links
links_unbinds old new dir name e tree u no_object k i is = of (cases_key (child old dir name) k)
  where
    binds : Rebinds (child old) (child new) dir name None
    binds = subst (Rebinds (child old) (child new) dir name) no_object (child_rebinds old new dir name e u.binds)

    less : (j : layers.Inode) → Some i ≡ Some (with_less j) → i.links ≡ j.links - 1
    less j f = ap (λ (x : layers.Inode). x.links) (unwrapped i (with_less j) f)

    -- one name less of an inode that had these names
    lost : (j : layers.Inode) → i.links ≡ j.links - 1 → child old dir name ≡ Some k → HasNames (child old) k j.links → HasNames (child new) k i.links
    lost j fewer led names =
        let dropped = length_without (child old) (child new) dir name names.places (names.stands.all dir name led) in
        record {
          places = without dir name names.places;
          stands = StandsAt-unbound (child old) (child new) dir name k None names.places binds (λ f. cc) names.stands;
          counted = omega (arith, dropped, names.counted, fewer);
        }

    led_to : (o : Option layers.Inode) → inode_at old k ≡ o → Some i ≡ option_map with_less o → child old dir name ≡ Some k → HasNames (child new) k i.links
    led_to None was f led = absurd (cc)
    led_to (Some j) was f led = lost j (less j f) led (tree.links k j was)

    of : (child old dir name ≡ Some k) ⊎ (child old dir name ≢ Some k) → HasNames (child new) k i.links
    of (inl led) = led_to (inode_at old k) refl (sym is ∙ u.unlinked k led) led
    of (inr off) =
        let names = tree.links k i (sym (u.inodes k off) ∙ is) in
        record {
          places = names.places;
          stands = StandsAt-other (child old) (child new) dir name k None names.places binds (λ f. cc) off names.stands;
          counted = names.counted;
        }

-- the names of each inode where a new object has its name
links_inserts : (old new : Tree) (dir : ℕ) (name : List ℕ) (o : Object) (key : ℕ) → IsTree old → Inserts old new dir name o key → child old dir name ≡ None → (k : ℕ) (i : layers.Inode) → inode_at new k ≡ Some i → HasNames (child new) k i.links
links_inserts old new dir name o key tree ins no_object k i is = of (cases_eq k key)
  where
    binds : Rebinds (child old) (child new) dir name (Some key)
    binds = child_rebinds old new dir name (Some (to.Object key)) ins.binds

    nowhere : StandsAt (child old) key []
    nowhere =
        record {
          found = λ d n l. absurd l;
          all = λ d n e. absurd (vacant_unnamed old tree key ins.fresh d n e);
          apart = tt;
        }

    one : (o : Object) → new_inode o ≡ Some i → 1 ≡ i.links
    one (object.Directory a m) f = absurd (cc)
    one (object.Inode c a) f = ap (λ (x : layers.Inode). x.links) (unwrapped (record { content = c; attributes = a; links = 1; mark = None }) i f)
    one (object.Marked q a) f = ap (λ (x : layers.Inode). x.links) (unwrapped (record { content = content.File []; attributes = a; links = 1; mark = Some q.value }) i f)

    first : inode_at new key ≡ Some i → HasNames (child new) key i.links
    first at =
        record {
          places = (dir, name) ∷ [];
          stands = StandsAt-bound (child old) (child new) dir name key [] binds (λ f. true≢false (sym (ap is_some f) ∙ ap is_some no_object)) nowhere;
          counted = one o (sym ins.inode ∙ at);
        }

    of : (k ≡ key) ⊎ (k ≢ key) → HasNames (child new) k i.links
    of (inl e) = subst (λ (x : ℕ). HasNames (child new) x i.links) (sym e) (first (ap (inode_at new) (sym e) ∙ is))
    of (inr off) =
        let names = tree.links k i (sym (ins.inodes k off) ∙ is) in
        record {
          places = names.places;
          stands = StandsAt-other (child old) (child new) dir name k (Some key) names.places binds (λ f. off (sym (unwrapped key k f))) (λ f. true≢false (sym (ap is_some f) ∙ ap is_some no_object)) names.stands;
          counted = names.counted;
        }

-- an inode to which a name leads is counted
pub counted : (t : Tree) → IsTree t → (dir : ℕ) (name : List ℕ) (key : ℕ) → child t dir name ≡ Some key → IsCounted (get t key)
counted t tree dir name key led = of (get t key) refl (tree.present dir name key led)
  where
    some : (places : List (ℕ × List ℕ)) → Listed dir name places → 0 < length places
    some [] l = absurd l
    some (p ∷ ps) l = omega arith

    of : (o : Option Node) → get t key ≡ o → IsSome o → IsCounted o
    of None e h = absurd (true≢false (sym h))
    of (Some (node.Directory d)) e h = tt
    of (Some (node.Inode i)) e h =
        let names = tree.links key _ (ap (option_and_then inode_of) e) in
        omega (arith, some names.places (names.stands.all dir name led), names.counted)

-- the same after a change of the table that the name stood in
pub counted_retabled : (t0 t1 : Tree) (dir : ℕ) (name : List ℕ) (change : NameMap → NameMap) (used : ℕ) → Retables t0 t1 dir change used → IsTree t0 → (was : Option Entry) → was ≡ entry t0 dir name → (key : ℕ) → option_and_then object_key was ≡ Some key → IsCounted (get t1 key)
counted_retabled t0 t1 dir name change used r tree was value key is =
    same_count t0 t1 dir change used r key (counted t0 tree dir name key (sym (ap (option_and_then object_key) value) ∙ is))

-- what a name that is taken out, or put under a whiteout, comes to
module _ (t0 t1 t2 : Tree) (dir : ℕ) (name : List ℕ) (was : Option Entry) (tree : IsTree t0) (is_dir : IsDirectory t0 dir) (value : was ≡ entry t0 dir name) (u : Unlinks t1 t2 (option_and_then object_key was)) where
  led : Unlinks t1 t2 (option_and_then object_key (entry t0 dir name))
  led = subst (λ o. Unlinks t1 t2 (option_and_then object_key o)) value u

  module _ (r : Retables t0 t1 dir (λ m. map.remove m name) 0) where
    pub taken : Unbinds t0 t2 dir name None
    taken = unbinds t0 t1 t2 dir name (λ m. map.remove m name) 0 r None (rebinds_gone t0 t1 dir name r) led

    pub IsTree-taken : IsTree t2
    IsTree-taken = IsTree-changed t0 t2 dir name None (Changed-unbinds t0 t2 dir name None tree is_dir taken refl) (Sound-unbinds t0 t2 dir name None tree taken refl) (links_unbinds t0 t2 dir name None tree taken refl)

    pub taken_clears : (path : Path) → key_at t0 path ≡ Some dir → ClearsPath (layer_of t0) (layer_of t2) (name ∷ path)
    taken_clears path at = ReplacesPath-changed t0 t2 dir name None (Changed-unbinds t0 t2 dir name None tree is_dir taken refl) path at

  module _ (r : Retables t0 t1 dir (λ m. map.insert m name to.Whiteout) 1) where
    pub covered : Unbinds t0 t2 dir name (Some to.Whiteout)
    covered = unbinds t0 t1 t2 dir name (λ m. map.insert m name to.Whiteout) 1 r (Some to.Whiteout) (rebinds_put t0 t1 dir name to.Whiteout r) led

    pub IsTree-covered : IsTree t2
    IsTree-covered = IsTree-changed t0 t2 dir name (Some to.Whiteout) (Changed-unbinds t0 t2 dir name (Some to.Whiteout) tree is_dir covered refl) (Sound-unbinds t0 t2 dir name (Some to.Whiteout) tree covered refl) (links_unbinds t0 t2 dir name (Some to.Whiteout) tree covered refl)

    pub covered_covers : (path : Path) → key_at t0 path ≡ Some dir → CoversPath (layer_of t0) (layer_of t2) (name ∷ path)
    covered_covers path at = ReplacesPath-changed t0 t2 dir name (Some to.Whiteout) (Changed-unbinds t0 t2 dir name (Some to.Whiteout) tree is_dir covered refl) path at

-- what an insert comes to
module _ (old new : Tree) (dir key : ℕ) (name : List ℕ) (o : Object) (tree : IsTree old) (is_dir : IsDirectory old dir) (ins : Inserts old new dir name o key) where
  pub IsTree-inserts : IsTrue (leads_on (Some (seen_object 0 o))) → child old dir name ≡ None → IsTree new
  IsTree-inserts leads no_object = IsTree-changed old new dir name (Some (to.Object key)) (Changed-inserts old new dir name o key tree is_dir ins) (Sound-inserts old new dir name o key tree ins leads) (links_inserts old new dir name o key tree ins no_object)

  pub inserts_sets : child old dir name ≡ None → (path : Path) → key_at old path ≡ Some dir → SetsPath (layer_of old) (layer_of new) (name ∷ path) (seen_object key o)
  inserts_sets no_object path at = SetsPath-changed old new dir name (Some (to.Object key)) (Changed-inserts old new dir name o key tree is_dir ins) path at no_object (seen_object key o) ins.there

-- an insert or a change of a name in a tree that is alike is one in the first tree
pub Inserts-after : (old mid new : Tree) (dir key : ℕ) (name : List ℕ) (o : Object) → SameTree old mid → get old key ≡ None → Inserts mid new dir name o key → Inserts old new dir name o key
Inserts-after old mid new dir key name o same vacant ins =
    record {
      fresh = vacant;
      binds = record { at = ins.binds.at; others = λ d n off. ins.binds.others d n off ∙ same.entries d n };
      there = ins.there;
      inode = ins.inode;
      empty = ins.empty;
      seen = λ k off. ins.seen k off ∙ same.seen k;
      inodes = λ k off. ins.inodes k off ∙ same.inodes k;
    }

pub vacant_before : (old mid : Tree) (key : ℕ) → SameTree old mid → get mid key ≡ None → get old key ≡ None
vacant_before old mid key same vacant = of (get old key) (sym (same_presence old mid key (same.seen key)) ∙ ap is_some vacant)
  where
    of : (o : Option Node) → is_some o ≡ false → o ≡ None
    of None e = refl
    of (Some n) e = absurd (true≢false e)

pub SetsPath-after : (old mid new : layers.Layer) (path : Path) (o : layers.Object) → SameObjects old mid → SetsPath mid new path o → SetsPath old new path o
SetsPath-after old mid new path o same sets =
    record { there = sets.there; elsewhere = λ other differs. sets.elsewhere other differs ∙ same other }

pub ReplacesPath-after : (old mid new : layers.Layer) (path : Path) (o : Option layers.Object) → SameObjects old mid → ReplacesPath mid new path o → ReplacesPath old new path o
ReplacesPath-after old mid new path o same replaces =
    record { there = replaces.there; below = replaces.below; elsewhere = λ other off. replaces.elsewhere other off ∙ same other }

pub Unbinds-after : (old mid new : Tree) (dir : ℕ) (name : List ℕ) (e : Option Entry) → SameTree old mid → Unbinds mid new dir name e → Unbinds old new dir name e
Unbinds-after old mid new dir name e same u =
    let led : child mid dir name ≡ child old dir name = ap (option_and_then object_key) (same.entries dir name) in
    record {
      binds = record { at = u.binds.at; others = λ d n off. u.binds.others d n off ∙ same.entries d n };
      seen = λ k. u.seen k ∙ same.seen k;
      unlinked = λ k is. u.unlinked k (led ∙ is) ∙ ap (option_map with_less) (same.inodes k);
      inodes = λ k off. u.inodes k (λ is. off (sym led ∙ is)) ∙ same.inodes k;
    }
