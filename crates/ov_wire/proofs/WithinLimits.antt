-- Layers that are as their entries say are within the limits.
use Rattle.std.proofs.Common.{◌≡◌, ℕ, ℤ, pos, negsuc, suc, ◌≤◌, ◌⊎◌, inl, inr, Bool, true, false, not, ◌&&◌, ◌||◌, bytes_eq, is_ok, length-append, ◌++◌, List, [], ◌∷◌, length, All, Option, Some, None, is_some, Result, Ok, Err, cond, codes, nat_le, nat_lt, refl, sym, ap, subst, ◌∙◌, arith, true≢false}
use Rattle.std.specs.Option.{option_and_then, unwrap_or}
use Rattle.std.specs.Result.{result_ok}
use Rattle.std.specs.List.{list_any, IsDistinct}
use Rattle.std.specs.Map.{keys_of}
use Rattle.std.specs.Cmp.{IsEquivalence}
use Rattle.std.proofs.lemmas.Map.Keys.{IsDistinct-push}
use Rattle.std.proofs.lemmas.Bool.{leb-true, ltb-true, ltb-false}
use Rattle.std.proofs.lemmas.List.Elements.{All-nil, All-cons, All-append}
use Rattle.toml.specs.Data.{Items, no_items, item, Members, get_member, as_integer}
use Rattle.ov_base.specs.declared.attributes.Attributes.{Attributes}
use Rattle.ov_base.specs.AttributeNames.{is_malformed, is_foreign, attribute_of}
use Rattle.ov_base.specs.UserValues.{value_of}
use Rattle.ov_base.specs.declared.errno.Errno.{Errno}
use Rattle.ov_base.specs.declared.errno.Errno.TheVariants.{EINVAL, EOPNOTSUPP}
use Rattle.ov_base.specs.declared.redirect.Redirect.{Redirect}
use Rattle.ov_base.specs.declared.redirect.Redirect.TheVariants as redirect
use Rattle.ov_base.specs.Names.{is_name}
use Rattle.ov_base.specs.Paths.{path_of_text}
use Rattle.plain_model.specs.Layers.{Name, Path, Object, Directory, Named, Inode, Layer, held, same_path}
use Rattle.plain_model.specs.Limits.{AreAttributesWithin, IsTargetWithin, IsContentWithin, IsRedirectWithin, IsWithinLimits, text_length, HasShortPaths}
use Rattle.ov_base.specs.Targets.{is_target}
use Rattle.plain_model.specs.Refusals.{has_nul, bad_attribute, when, ◌or_else◌}
use Rattle.plain_model.proofs.Paths.{names_tell, paths_tell}
use Rattle.layer_tree.specs.declared.node.Marks.{Marks}
use Rattle.layer_tree.specs.declared.node.Object.TheVariants as object
use Rattle.layer_tree.proofs.Walks.{bound}
use Rattle.ov_wire.specs.ManifestEntries.{items_at, pair_of, is_settable, with_attribute, attributes_from, user_of, bytes_given, path_to, text_at, within, number_in, number_at, path_of, attributes_of, bytes_of, target_of, redirect_to, redirect_spelled, redirect_in, opaque_of, marks_of, item_of}
use Rattle.ov_wire.specs.Manifests.{entries_in}
use Rattle.ov_wire.specs.ManifestLayers.{Entry, put_at, is_inode, further_names, with_spelled, numbered, entries_from, root_of, Stands, IsAsSaid, AreSpelled}
use Rattle.ov_wire.specs.declared.manifest.entry.EntryKind.{EntryKind}
use Rattle.ov_wire.specs.declared.manifest.entry.EntryKind.TheVariants as kind
use Rattle.ov_wire.specs.declared.manifest.entry.Item.{Item}
use Rattle.ov_wire.specs.declared.manifest.entry.Item.TheVariants as put
use Rattle.ov_wire.specs.declared.manifest.fault.EntryFault.TheVariants as fault
use Rattle.ov_wire.proofs.PathTexts.{IsSpelledPath, spelled-path}
use Rattle.ov_wire.proofs.Placing.{placed-is}
use Rattle.ov_wire.proofs.Listing.{bytes-flip}
use Rattle.ov_wire.proofs.Pairs.{IsSettable, settable}
use Rattle.ov_wire.proofs.Said.{ok, then-ok, ok_or-ok, result_ok-some, says, unnumbered}

-- what an answer says of its value
said : {T : Type 0} (P : T → Type 0) (x y : T) → ok x ≡ Ok y → P x → P y
said P x y e h = let same : x ≡ y = cc in subst P same h

-- a number that is given is at most the most
within-most : (most : ℕ) (z : ℤ) (n : ℕ) → within most z ≡ Ok n → n ≤ most
within-most most (pos m) n e = at (nat_le m most) refl e
  where
    at : (b : Bool) → nat_le m most ≡ b → cond b (Ok m) (Err fault.Value) ≡ Ok n → n ≤ most
    at true is e = let same : m ≡ n = cc in subst (λ k. k ≤ most) same (leb-true m most is)
    at false is e = absurd (cc)
within-most most (negsuc m) n e = absurd (cc)

number-most : (key : List ℕ) (most default : ℕ) (m : Members) (n : ℕ) → default ≤ most → number_at key most default m ≡ Ok n → n ≤ most
number-most key most default m n small e = of (option_and_then as_integer (get_member key m)) e
  where
    of : (o : Option ℤ) → number_in most default o ≡ Ok n → n ≤ most
    of (Some z) e = within-most most z n e
    of None e = said (λ (k : ℕ). k ≤ most) default n e small

-- user attributes within the limits
pub record IsUserWithin (user : List (List ℕ × List ℕ)) : Type 0 where
  pub few : length user ≤ 64
  pub names : All (λ x. bad_attribute x.0 ≡ None) user
  pub values : All (λ x. length x.1 ≤ 1024) user
  pub once : IsDistinct bytes_eq (keys_of user)

no-user : IsUserWithin []
unfolding IsDistinct
no-user = record {
  few = omega arith;
  names = All-nil (λ (x : List ℕ × List ℕ). bad_attribute x.0 ≡ None);
  values = All-nil (λ (x : List ℕ × List ℕ). length x.1 ≤ 1024);
  once = tt;
}

-- a name that is taken is not refused
good-name : (n : List ℕ) → is_ok (attribute_of n) ≡ true → bad_attribute n ≡ None
good-name n h = of (is_malformed n) (is_foreign n) h
  where
    of : (b f : Bool) → is_ok (cond b (Err EINVAL) (cond f (Err EOPNOTSUPP) (Ok n))) ≡ true → (when b EINVAL or_else when f EOPNOTSUPP) ≡ None
    of true f h = absurd (true≢false (sym h))
    of false true h = absurd (true≢false (sym h))
    of false false h = refl

bytes-equivalence : IsEquivalence bytes_eq
bytes-equivalence = record {
  refl = λ x. (names_tell x x).1 refl;
  symm = bytes-flip;
  congr = λ x y z e. ap (λ (w : List ℕ). bytes_eq w z) ((names_tell x y).0 e);
}

keys-push : (before : List (List ℕ × List ℕ)) (x : List ℕ × List ℕ) → keys_of (before ++ x ∷ []) ≡ keys_of before ++ x.0 ∷ []
keys-push [] x = refl
keys-push (y ∷ ys) x = ap (λ (ks : List (List ℕ)). y.0 ∷ ks) (keys-push ys x)

-- a name without a value is none of the keys
no-key : (before : List (List ℕ × List ℕ)) (n : List ℕ) → is_some (value_of before n) ≡ false → list_any (bytes_eq n) (keys_of before) ≡ false
no-key [] n h = refl
no-key (x ∷ xs) n h = of (bytes_eq x.0 n) refl (no-key xs n) h
  where
    of : (b : Bool) → bytes_eq x.0 n ≡ b → (is_some (value_of xs n) ≡ false → list_any (bytes_eq n) (keys_of xs) ≡ false) → is_some (cond b (Some x.1) (value_of xs n)) ≡ false → (bytes_eq n x.0 || list_any (bytes_eq n) (keys_of xs)) ≡ false
    of true is later h = absurd (true≢false h)
    of false is later h = ap (λ (b : Bool). b || list_any (bytes_eq n) (keys_of xs)) (bytes-flip n x.0 ∙ is) ∙ later h

-- with one more user attribute
user-more : (before : List (List ℕ × List ℕ)) (o : Option (List ℕ × List ℕ)) (after : List (List ℕ × List ℕ)) → IsUserWithin before → with_attribute before o ≡ Ok after → IsUserWithin after
user-more before None after h e = absurd (cc)
user-more before (Some x) after h e = of (is_settable before x) refl e
  where
    one : IsSettable before x → IsUserWithin (before ++ x ∷ [])
    one t = record {
      few = omega (arith, ltb-true (length before) 64 t.few, length-append before (x ∷ []));
      names = All-append (λ (x : List ℕ × List ℕ). bad_attribute x.0 ≡ None) before (x ∷ []) h.names (All-cons (λ (x : List ℕ × List ℕ). bad_attribute x.0 ≡ None) x [] (good-name x.0 t.name) (All-nil (λ (x : List ℕ × List ℕ). bad_attribute x.0 ≡ None)));
      values = All-append (λ (x : List ℕ × List ℕ). length x.1 ≤ 1024) before (x ∷ []) h.values (All-cons (λ (x : List ℕ × List ℕ). length x.1 ≤ 1024) x [] (leb-true (length x.1) 1024 t.value) (All-nil (λ (x : List ℕ × List ℕ). length x.1 ≤ 1024)));
      once = subst (IsDistinct bytes_eq) (sym (keys-push before x)) (IsDistinct-push bytes-equivalence (keys_of before) x.0 h.once (no-key before x.0 t.new));
    }

    of : (b : Bool) → is_settable before x ≡ b → cond b (Ok (before ++ x ∷ [])) (Err fault.Value) ≡ Ok after → IsUserWithin after
    of true is e = said IsUserWithin (before ++ x ∷ []) after e (one (settable before x is))
    of false is e = absurd (cc)

user-from : (before : List (List ℕ × List ℕ)) (items : Items) (final : List (List ℕ × List ℕ)) → IsUserWithin before → attributes_from before items ≡ Ok final → IsUserWithin final
user-from before no_items final h e = said IsUserWithin before final e h
user-from before (item d rest) final h e =
    let step = then-ok (with_attribute before (pair_of d)) _ final e in
    user-from step.0 rest final (user-more before (pair_of d) step.0 h step.1) step.2

-- the attributes that an entry gives
pub attributes-within : (default : ℕ) (m : Members) (a : Attributes) → default ≤ 4095 → attributes_of default m ≡ Ok a → AreAttributesWithin a
attributes-within default m a small e =
    let mode = then-ok (number_at (codes "mode") 4095 default m) _ a e in
    let uid = then-ok (number_at (codes "uid") 4294967295 0 m) _ a mode.2 in
    let gid = then-ok (number_at (codes "gid") 4294967295 0 m) _ a uid.2 in
    let user = then-ok (user_of m) _ a gid.2 in
    let within = user-from [] (items_at (codes "attrs") m) user.0 no-user user.1 in
    said AreAttributesWithin (record { mode = mode.0; uid = uid.0; gid = gid.0; user = user.0 }) a user.2 (record {
      mode = number-most (codes "mode") 4095 default m mode.0 small mode.1;
      uid = number-most (codes "uid") 4294967295 0 m uid.0 (omega arith) uid.1;
      gid = number-most (codes "gid") 4294967295 0 m gid.0 (omega arith) gid.1;
      few = within.few;
      names = within.names;
      values = within.values;
      once = within.once;
    })

-- the bytes that an entry gives
bytes-within : (limit : ℕ) (blobs : List (List ℕ)) (m : Members) (bytes : List ℕ) → bytes_of limit blobs m ≡ Ok bytes → length bytes ≤ limit
bytes-within limit blobs m bytes e =
    let given = then-ok (bytes_given limit blobs m) _ bytes e in
    of given.0 (nat_lt limit (length given.0)) refl given.2
  where
    of : (given : List ℕ) (b : Bool) → nat_lt limit (length given) ≡ b → cond b (Err fault.Value) (Ok given) ≡ Ok bytes → length bytes ≤ limit
    of given true is e = absurd (cc)
    of given false is e = said (λ (bs : List ℕ). length bs ≤ limit) given bytes e (ltb-false limit (length given) is)

-- what is a target
is-target-within : (target : List ℕ) → is_target target ≡ true → IsTargetWithin target
is-target-within target e = of (nat_lt 0 (length target)) (nat_le (length target) 4095) (has_nul target) refl refl refl e
  where
    of : (a b c : Bool) → nat_lt 0 (length target) ≡ a → nat_le (length target) 4095 ≡ b → has_nul target ≡ c → (a && b && not c) ≡ true → IsTargetWithin target
    of true true false some short plain e = record { some = ltb-true 0 (length target) some; short = leb-true (length target) 4095 short; plain = plain }
    of true true true some short plain e = absurd (true≢false (sym e))
    of true false c some short plain e = absurd (true≢false (sym e))
    of false b c some short plain e = absurd (true≢false (sym e))

-- the target that an entry gives
target-within : (m : Members) (target : List ℕ) → target_of m ≡ Ok target → IsTargetWithin target
target-within m target e = at (unwrap_or (text_at (codes "target") m) []) e
  where
    at : (text : List ℕ) → cond (is_target text) (Ok text) (Err fault.Value) ≡ Ok target → IsTargetWithin target
    at text e = of (is_target text) refl e
      where
        of : (b : Bool) → is_target text ≡ b → cond b (Ok text) (Err fault.Value) ≡ Ok target → IsTargetWithin target
        of true is e = said IsTargetWithin text target e (is-target-within text is)
        of false is e = absurd (cc)

-- a path to which a redirect leads is short
abbrev LeadsShort : Redirect → Type 0
LeadsShort (redirect.Single n) = Unit {0}
LeadsShort (redirect.Absolute q) = text_length q ≤ 4095

-- a redirect that a text spells
record IsSpelledRedirect (r : Redirect) : Type 0 where
  within : IsRedirectWithin r
  short : LeadsShort r

spelled-redirect : (text : List ℕ) (r : Redirect) → redirect_spelled text ≡ Ok r → IsSpelledRedirect r
spelled-redirect text r e = of (is_name text) refl e
  where
    to : (o : Result Path Errno) → path_of_text text ≡ o → redirect_to o ≡ Ok r → IsSpelledRedirect r
    to (Ok (n ∷ p)) is e =
        let q = spelled-path text (n ∷ p) is in
        said IsSpelledRedirect (redirect.Absolute (n ∷ p)) r e (record { within = (λ none. cc, q.names); short = q.short })
    to (Ok []) is e = absurd (cc)
    to (Err f) is e = absurd (cc)

    of : (b : Bool) → is_name text ≡ b → cond b (Ok (redirect.Single text)) (redirect_to (path_of_text text)) ≡ Ok r → IsSpelledRedirect r
    of true is e = said IsSpelledRedirect (redirect.Single text) r e (record { within = is; short = tt })
    of false is e = to (path_of_text text) refl e

-- the redirect that an entry gives
redirect-within : (o : Option (List ℕ)) (s : Option Redirect) → redirect_in o ≡ Ok s → (r : Redirect) → s ≡ Some r → IsSpelledRedirect r
redirect-within None s e r is = let none : None ≡ s = cc in absurd (cc)
redirect-within (Some text) s e r is =
    let x = then-ok (redirect_spelled text) _ s e in
    let some : Some x.0 ≡ s = cc in
    let same : x.0 ≡ r = cc in
    subst IsSpelledRedirect same (spelled-redirect text x.0 x.1)

-- what an entry puts somewhere is within the limits
abbrev IsItemWithin : ℕ → Item → Type 0
IsItemWithin limit (put.Object (object.Directory a m)) = AreAttributesWithin a × ((r : Redirect) → m.redirect ≡ Some r → IsSpelledRedirect r)
IsItemWithin limit (put.Object (object.Inode c a)) = AreAttributesWithin a × IsContentWithin limit c
IsItemWithin limit (put.Object (object.Marked q a)) = ⊥
IsItemWithin limit put.Whiteout = Unit {0}
IsItemWithin limit (put.Link to) = Unit {0}

marks-within : (m : Members) (x : Marks) → marks_of m ≡ Ok x → (r : Redirect) → x.redirect ≡ Some r → IsSpelledRedirect r
marks-within m x e =
    let s = then-ok (redirect_in (text_at (codes "redirect") m)) _ x e in
    said (λ (y : Marks). (r : Redirect) → y.redirect ≡ Some r → IsSpelledRedirect r) (record { opaque = opaque_of m; redirect = s.0 }) x s.2
    (redirect-within (text_at (codes "redirect") m) s.0 s.1)

item-within : (limit : ℕ) (blobs : List (List ℕ)) (k : EntryKind) (m : Members) (i : Item) → item_of limit blobs k m ≡ Ok i → IsItemWithin limit i
item-within limit blobs kind.Directory m i e =
    let a = then-ok (attributes_of 493 m) _ i e in
    let b = then-ok (marks_of m) _ i a.2 in
    said (IsItemWithin limit) (put.Object (object.Directory a.0 b.0)) i b.2 (attributes-within 493 m a.0 (omega arith) a.1, marks-within m b.0 b.1)
item-within limit blobs kind.File m i e =
    let a = then-ok (attributes_of 420 m) _ i e in
    let b = then-ok (bytes_of limit blobs m) _ i a.2 in
    said (IsItemWithin limit) _ i b.2 (attributes-within 420 m a.0 (omega arith) a.1, bytes-within limit blobs m b.0 b.1)
item-within limit blobs kind.SymbolicLink m i e =
    let a = then-ok (attributes_of 511 m) _ i e in
    let b = then-ok (target_of m) _ i a.2 in
    said (IsItemWithin limit) _ i b.2 (attributes-within 511 m a.0 (omega arith) a.1, target-within m b.0 b.1)
item-within limit blobs kind.Whiteout m i e = said (IsItemWithin limit) put.Whiteout i e tt
item-within limit blobs kind.HardLink m i e = said (IsItemWithin limit) (put.Link (path_to m)) i e tt

path-within : (m : Members) (p : Path) → path_of m ≡ Ok p → IsSpelledPath p
path-within m p e =
    let text = bound (λ text. result_ok (path_of_text text)) (text_at (codes "path") m) p (ok_or-ok _ fault.Path p e) in
    spelled-path text.0 p (result_ok-some (path_of_text text.0) p text.2)

-- each of these entries is within the limits
abbrev AreEntriesWithin : ℕ → List Entry → Type 0
AreEntriesWithin limit [] = Unit {0}
AreEntriesWithin limit (e ∷ es) = IsSpelledPath e.0 × IsItemWithin limit e.1 × AreEntriesWithin limit es

-- entries none of which is at fault are within the limits
entries-within : (limit : ℕ) (blobs : List (List ℕ)) (number : ℕ) (before : List Entry) (items : Items) (final : List Entry) → AreEntriesWithin limit before → entries_from limit blobs number before items ≡ Ok final → AreEntriesWithin limit final
entries-within limit blobs number before no_items final h e = let same : before ≡ final = cc in subst (AreEntriesWithin limit) same h
entries-within limit blobs number before (item d rest) final h e =
    let step = then-ok (numbered number (with_spelled limit blobs before d)) _ final e in
    let s = says limit blobs before d step.0 (unnumbered number (with_spelled limit blobs before d) step.0 step.1) in
    let more : AreEntriesWithin limit ((s.path, s.puts) ∷ before) = (path-within s.table s.path s.is_path, item-within limit blobs s.k s.table s.puts s.is_item, h) in
    entries-within limit blobs (suc number) step.0 rest final (subst (AreEntriesWithin limit) (placed-is before s.path s.puts step.0 s.is_placed) more) step.2

-- what entries put at a path
put-within : (limit : ℕ) (entries : List Entry) (p : Path) (i : Item) → AreEntriesWithin limit entries → put_at entries p ≡ Some i → IsSpelledPath p × IsItemWithin limit i
put-within limit [] p i h e = absurd (cc)
put-within limit (x ∷ xs) p i h e = of (same_path x.0 p) refl (put-within limit xs p i h.2) e
  where
    of : (b : Bool) → same_path x.0 p ≡ b → (put_at xs p ≡ Some i → IsSpelledPath p × IsItemWithin limit i) → cond b (Some x.1) (put_at xs p) ≡ Some i → IsSpelledPath p × IsItemWithin limit i
    of true is onward e =
        let path : x.0 ≡ p = (paths_tell x.0 p).0 is in
        let item : x.1 ≡ i = cc in
        (subst IsSpelledPath path h.0, subst (IsItemWithin limit) item h.1)
    of false is onward e = onward e

-- what a layer holds where something was put
stands-put : (L : Layer) (names : ℕ) (o : Option Object) (i : Option Item) → Stands L names o i → is_some o ≡ true → (j : Item) × (i ≡ Some j)
stands-put L names o None h some = absurd (true≢false (sym some ∙ ap (λ (x : Option Object). is_some x) h))
stands-put L names o (Some j) h some = (j, refl)

-- a directory that a layer holds where this was put
directory-put : (limit : ℕ) (L : Layer) (names k : ℕ) (a : Attributes) (o : Bool) (r : Option Redirect) (i : Item) → Stands L names (Some (Directory k a o r)) (Some i) → IsItemWithin limit i → AreAttributesWithin a × ((s : Redirect) → r ≡ Some s → IsSpelledRedirect s)
directory-put limit L names k a o r put.Whiteout h w = absurd (cc)
directory-put limit L names k a o r (put.Object (object.Inode c b)) h w = let no = h.1 in absurd (cc)
directory-put limit L names k a o r (put.Object (object.Marked q b)) h w = absurd h
directory-put limit L names k a o r (put.Link None) h w = absurd h
directory-put limit L names k a o r (put.Link (Some to)) h w = let no = h.1 in absurd (cc)
directory-put limit L names k a o r (put.Object (object.Directory b m)) h w =
    let is = h.1 in
    let attributes : b ≡ a = cc in
    let mark : m.redirect ≡ r = cc in
    (subst AreAttributesWithin attributes w.0, λ s e. w.1 s (mark ∙ e))

-- an inode to which a layer leads where this was put as a file or symbolic link
inode-put : (limit : ℕ) (L : Layer) (names k : ℕ) (x : Inode) (i : Item) → is_inode (Some i) ≡ true → Stands L names (Some (Named k)) (Some i) → L.inodes k ≡ Some x → IsItemWithin limit i → AreAttributesWithin x.attributes × IsContentWithin limit x.content
inode-put limit L names k x put.Whiteout is h there w = absurd (true≢false (sym is))
inode-put limit L names k x (put.Link to) is h there w = absurd (true≢false (sym is))
inode-put limit L names k x (put.Object (object.Directory b m)) is h there w = absurd (true≢false (sym is))
inode-put limit L names k x (put.Object (object.Marked q b)) is h there w = absurd h
inode-put limit L names k x (put.Object (object.Inode c a)) is h there w =
    let key : h.0 ≡ k = let same = h.1 in cc in
    let made : Some (record { content = c; attributes = a; links = names; mark = None }) ≡ L.inodes k = sym h.2 ∙ ap L.inodes key in
    let attributes : a ≡ x.attributes = cc in
    let content : c ≡ x.content = cc in
    (subst AreAttributesWithin attributes w.0, subst (IsContentWithin limit) content w.1)

-- where a layer names an inode, a file or symbolic link was put, or a further name of it
named-put : (L : Layer) (names k : ℕ) (i : Item) → Stands L names (Some (Named k)) (Some i) → (is_inode (Some i) ≡ true) ⊎ ((to : Path) × (i ≡ put.Link (Some to)) × (held L to ≡ Some (Named k)))
named-put L names k put.Whiteout h = absurd (cc)
named-put L names k (put.Object (object.Directory b m)) h = let no = h.1 in absurd (cc)
named-put L names k (put.Object (object.Inode c a)) h = inl refl
named-put L names k (put.Object (object.Marked q a)) h = absurd h
named-put L names k (put.Link None) h = absurd h
named-put L names k (put.Link (Some to)) h = inr (to, refl, h.2 ∙ ap (λ (j : ℕ). Some (Named j)) (let same = h.1 in one h.0 k same))
  where
    one : (j k : ℕ) → Some (Named k) ≡ Some (Named j) → j ≡ k
    one j k e = cc

-- attributes that no entry sets
unset-within : AreAttributesWithin (root_of None)
unset-within = record {
  mode = omega arith;
  uid = omega arith;
  gid = omega arith;
  few = no-user.few;
  names = no-user.names;
  values = no-user.values;
  once = no-user.once;
}

-- the attributes of the root
root-within : (limit : ℕ) (entries : List Entry) → AreEntriesWithin limit entries → AreAttributesWithin (root_of (put_at entries []))
root-within limit entries h = of (put_at entries []) refl
  where
    of : (o : Option Item) → put_at entries [] ≡ o → AreAttributesWithin (root_of o)
    of None e = unset-within
    of (Some put.Whiteout) e = unset-within
    of (Some (put.Link to)) e = unset-within
    of (Some (put.Object (object.Directory a m))) e = ((put-within limit entries [] (put.Object (object.Directory a m)) h e).1).0
    of (Some (put.Object (object.Inode c a))) e = unset-within
    of (Some (put.Object (object.Marked q a))) e = unset-within

module _ (limit : ℕ) (L : Layer) (entries : List Entry) (s : IsAsSaid L entries) (all : AreEntriesWithin limit entries) where
  -- what stands below the root was put there, within the limits
  record WasPut (n : Name) (p : Path) (o : Option Object) : Type 0 where
    puts : Item
    is_put : put_at entries (n ∷ p) ≡ Some puts
    stands : Stands L (suc (further_names entries (n ∷ p))) o (Some puts)
    spelled : IsSpelledPath (n ∷ p)
    within : IsItemWithin limit puts

  was-put : (n : Name) (p : Path) (o : Option Object) → held L (n ∷ p) ≡ o → is_some o ≡ true → WasPut n p o
  was-put n p o e some =
      let below : Stands L (suc (further_names entries (n ∷ p))) o (put_at entries (n ∷ p)) = subst (λ x. Stands L (suc (further_names entries (n ∷ p))) x (put_at entries (n ∷ p))) e (s.below n p) in
      let j = stands-put L (suc (further_names entries (n ∷ p))) o (put_at entries (n ∷ p)) below some in
      let w = put-within limit entries (n ∷ p) j.0 all j.1 in
      record { puts = j.0; is_put = j.1; stands = subst (λ i. Stands L (suc (further_names entries (n ∷ p))) o i) j.1 below; spelled = w.0; within = w.1 }

  path-spelled : (p : Path) → is_some (held L p) ≡ true → IsSpelledPath p
  path-spelled [] some = spelled-path (47 ∷ []) [] refl
  path-spelled (n ∷ p) some = (was-put n p (held L (n ∷ p)) refl some).spelled

  root-held : (k : ℕ) (a : Attributes) (o : Bool) (r : Option Redirect) → held L [] ≡ Some (Directory k a o r) → (L.root ≡ a) × (r ≡ None)
  root-held k a o r e = (cc, cc)

  directory-held : (p : Path) (k : ℕ) (a : Attributes) (o : Bool) (r : Option Redirect) → held L p ≡ Some (Directory k a o r) → AreAttributesWithin a × ((t : Redirect) → r ≡ Some t → IsSpelledRedirect t)
  directory-held [] k a o r e =
      let root = root-held k a o r e in
      (subst AreAttributesWithin (sym s.root ∙ root.0) (root-within limit entries all), λ t is. absurd (cc (root.1)))
  directory-held (n ∷ p) k a o r e =
      let w = was-put n p (Some (Directory k a o r)) e refl in
      directory-put limit L (suc (further_names entries (n ∷ p))) k a o r w.puts w.stands w.within

  -- at a path where a file or symbolic link was put
  inode-first : (p : Path) (k : ℕ) (i : Inode) → is_inode (put_at entries p) ≡ true → held L p ≡ Some (Named k) → L.inodes k ≡ Some i → AreAttributesWithin i.attributes × IsContentWithin limit i.content
  inode-first [] k i is e there = absurd (cc)
  inode-first (n ∷ p) k i is e there =
      let w = was-put n p (Some (Named k)) e refl in
      inode-put limit L (suc (further_names entries (n ∷ p))) k i w.puts (ap (λ (o : Option Item). is_inode o) (sym w.is_put) ∙ is) w.stands there w.within

  inode-held : (p : Path) (k : ℕ) (i : Inode) → held L p ≡ Some (Named k) → L.inodes k ≡ Some i → AreAttributesWithin i.attributes × IsContentWithin limit i.content
  inode-held [] k i e there = absurd (cc)
  inode-held (n ∷ p) k i e there =
      let w = was-put n p (Some (Named k)) e refl in
      elim (named-put L (suc (further_names entries (n ∷ p))) k w.puts w.stands) [
        | inl is ↦ inode-first (n ∷ p) k i (ap (λ (o : Option Item). is_inode o) w.is_put ∙ is) e there
        | inr further ↦ inode-first further.0 k i (s.lead (n ∷ p) further.0 (w.is_put ∙ ap (λ (j : Item). Some j) further.1)) further.2 there
      ]

  layer-within : IsWithinLimits limit L
  layer-within = record {
    names = λ p some. (path-spelled p some).names;
    directories = λ p k a o r e. (directory-held p k a o r e).0;
    redirects = λ p k a o r e. ((directory-held p k a o (Some r) e).1 r refl).within;
    attributes = λ p k i e there. (inode-held p k i e there).0;
    contents = λ p k i e there. (inode-held p k i e there).1;
  }

  layer-short : HasShortPaths L
  layer-short = record {
    paths = λ p some. (path-spelled p some).short;
    redirects = λ p k a o q e. ((directory-held p k a o (Some (redirect.Absolute q)) e).1 (redirect.Absolute q) refl).short;
  }

-- layers that are as their entries say are within the limits
pub spelled-within : (limit : ℕ) (blobs : List (List ℕ)) (Ls : List Layer) (items : Items) → AreSpelled limit blobs Ls items → All (IsWithinLimits limit) Ls
spelled-within limit blobs [] items h = All-nil (IsWithinLimits limit)
spelled-within limit blobs (L ∷ Ls) no_items h = absurd h
spelled-within limit blobs (L ∷ Ls) (item d rest) h = All-cons (IsWithinLimits limit) L Ls (layer-within limit L (h.0).0 (h.0).2 (entries-within limit blobs 0 [] (entries_in d) (h.0).0 tt (h.0).1)) (spelled-within limit blobs Ls rest h.1)

-- and their paths are short
pub spelled-short : (limit : ℕ) (blobs : List (List ℕ)) (Ls : List Layer) (items : Items) → AreSpelled limit blobs Ls items → All HasShortPaths Ls
spelled-short limit blobs [] items h = All-nil HasShortPaths
spelled-short limit blobs (L ∷ Ls) no_items h = absurd h
spelled-short limit blobs (L ∷ Ls) (item d rest) h = All-cons HasShortPaths L Ls (layer-short limit L (h.0).0 (h.0).2 (entries-within limit blobs 0 [] (entries_in d) (h.0).0 tt (h.0).1)) (spelled-short limit blobs Ls rest h.1)
