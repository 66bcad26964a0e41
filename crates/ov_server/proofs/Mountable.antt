-- The layers of a manifest are a mount.
use Rattle.std.proofs.Common.{◌≡◌, inl, inr, ℕ, suc, ◌<◌, ◌≤◌, ◌&&◌, not, nat_le, cond, ℤ, pos, negsuc, codes, Bool, true, false, List, ◌∷◌, All, Any, map, Option, None, Some, option_map, Result, Ok, Err, is_some, arith, refl, sym, ap, subst, ◌∙◌}
use Rattle.std.specs.Option.{option_and_then, unwrap_or}
use Rattle.std.proofs.lemmas.Bool.{false≢true}
use Rattle.std.proofs.lemmas.Bool.Decides.{nat_tests}
use Rattle.toml.specs.Data.{Members, as_integer, get_member}
use Rattle.ov_base.specs.declared.options.Options.{Options}
use Rattle.plain_model.specs.Layers.{Layer}
use Rattle.layer_tree.specs.Tree.{HasMark, Tree, layer_of, layers_given}
use Rattle.ov_wire.specs.ManifestEntries.{and_then}
use Rattle.ov_wire.specs.Manifests.{blobs_checked, checked, file_limit_of, history_of, history_within, may_metacopy, metacopy_of, options_of, redirects_of, whole_of}
use Rattle.ov_wire.specs.ManifestLayers.{layer_items, layers_fault, manifest_of, unless_fault, HasNoMark}
use Rattle.ov_wire.specs.declared.manifest.fault.ManifestFault.{ManifestFault}
use Rattle.ov_wire.specs.declared.manifest.fault.ManifestFault.TheVariants as fault
use Rattle.overlay_core.specs.Mounting.{IsBadMetacopy, IsFault, mount_fault}
use Rattle.overlay_core.specs.declared.mount_faults.MountFault.{MountFault}

-- marks that are made where redirects are aren't made without them
redirected-too : (metacopy redirects : Bool) → (metacopy ≡ true → redirects ≡ true) → (metacopy && not redirects) ≡ true → ⊥
redirected-too false redirects h e = false≢true e
redirected-too true true h e = false≢true e
redirected-too true false h e = false≢true (h refl)

-- no layer has a mark where none has
none-marked : (Ls : List Layer) → All HasNoMark Ls → Any HasMark Ls → ⊥
none-marked Ls all h = all h.0 h.1 h.2 (subst HasMark (sym h.3) h.4)

-- layers without marks have none where none may stand
no-bad : (o : Options) (upper : Option Tree) (lowers : List Tree) → (is_some upper ≡ true → o.metacopy ≡ true → o.redirects ≡ true) → All HasNoMark (layers_given upper lowers) → IsBadMetacopy o (option_map layer_of upper) (map layer_of lowers) → ⊥
no-bad o None lowers redirected all h = none-marked (map layer_of lowers) all h
no-bad o (Some U) lowers redirected all (inl h) = redirected-too o.metacopy o.redirects (redirected refl) h
no-bad o (Some U) lowers redirected all (inr (inl h)) = none-marked (map layer_of lowers) (below (layer_of U) (map layer_of lowers) all) h
  where
    below : (L : Layer) (Ls : List Layer) → All HasNoMark (L ∷ Ls) → All HasNoMark Ls
    below L Ls all k d within = all (suc k) d (omega (arith, within))
no-bad o (Some U) lowers redirected all (inr (inr h)) = all 0 (layer_of U) (omega arith) (h.0, h.1, h.3, ap (λ o. is_some o) h.4)

-- what goes on to a value comes of one
then-ok : {A B E : Type 0} (x : Result A E) (f : A → Result B E) (b : B) → and_then x f ≡ Ok b → (a : A) × (x ≡ Ok a) × (f a ≡ Ok b)
then-ok (Ok a) f b h = (a, refl, h)
then-ok (Err e) f b h = absurd (cc)

-- a length of the history that is taken is one that a mount takes
taken-length : (b : Bool) (k n : ℕ) → (nat_le 2 k && nat_le k 1000000) ≡ b → cond b (Ok k) (Err fault.History) ≡ Ok n → (2 ≤ n) × (n ≤ 1000000)
taken-length true k n e is = let same : k ≡ n = cc in (grind (arith, nat_tests), grind (arith, nat_tests))
taken-length false k n e is = absurd (cc)

within-length : (z : ℤ) (n : ℕ) → history_within z ≡ Ok n → (2 ≤ n) × (n ≤ 1000000)
within-length (pos k) n h = taken-length (nat_le 2 k && nat_le k 1000000) k n refl h
within-length (negsuc k) n h = absurd (cc)

unless-ok : (f : Option ManifestFault) (o x : Options) → unless_fault f o ≡ Ok x → o ≡ x
unless-ok None o x h = cc
unless-ok (Some f) o x h = absurd (cc)

either-ok : (b : Bool) (o x : Options) (f : ManifestFault) → cond b (Ok o) (Err f) ≡ Ok x → o ≡ x
either-ok true o x f h = cc
either-ok false o x f h = absurd (cc)

abbrev opted : Options → Result Options ManifestFault
opted o = Ok o

unwrapped : (x y : Options) → opted x ≡ Ok y → x ≡ y
unwrapped x y e = cc

-- the numbers among options are those that their keys tell
said-numbers : (m : Members) (o : Options) → options_of m ≡ Ok o → (history_of m ≡ Ok o.history) × (file_limit_of m ≡ Ok o.file_limit)
said-numbers m o h =
    let a = then-ok (checked m) _ o h in
    let b = then-ok (redirects_of m) _ o a.2 in
    let c = then-ok (metacopy_of (may_metacopy b.0 m) m) _ o b.2 in
    let d = then-ok (history_of m) _ o c.2 in
    let e = then-ok (file_limit_of m) _ o d.2 in
    let f = then-ok (blobs_checked m) _ o e.2 in
    of b.0 c.0 d.0 e.0 f.2 d.1 e.1
  where
    of : (redirects metacopy : Bool) (history limit : ℕ) → opted (record { redirects = redirects; metacopy = metacopy; history = history; file_limit = limit }) ≡ Ok o → history_of m ≡ Ok history → file_limit_of m ≡ Ok limit → (history_of m ≡ Ok o.history) × (file_limit_of m ≡ Ok o.file_limit)
    of redirects metacopy history limit is places most =
        let same = unwrapped (record { redirects = redirects; metacopy = metacopy; history = history; file_limit = limit }) o is in
        (places ∙ ap (λ (x : Options). Ok x.history) same, most ∙ ap (λ (x : Options). Ok x.file_limit) same)

-- so are those of a manifest
manifest-numbers : (blobs : List (List ℕ)) (m : Members) (o : Options) → manifest_of blobs m ≡ Ok o → (history_of m ≡ Ok o.history) × (file_limit_of m ≡ Ok o.file_limit)
manifest-numbers blobs m o h =
    let a = then-ok (whole_of m) _ o h in
    let b = then-ok (options_of m) _ a.0 a.1 in
    let whole : a.0 ≡ o = unless-ok (layers_fault a.0.file_limit blobs 0 (layer_items m)) a.0 o a.2 in
    let same : b.0 ≡ a.0 = either-ok _ b.0 a.0 fault.Layers b.2 in
    subst (λ (x : Options). (history_of m ≡ Ok x.history) × (file_limit_of m ≡ Ok x.file_limit)) (same ∙ whole) (said-numbers m b.0 b.1)

-- the limit of a manifest without a fault is that of its options
pub told-limit : (blobs : List (List ℕ)) (m : Members) (o : Options) → manifest_of blobs m ≡ Ok o → file_limit_of m ≡ Ok o.file_limit
told-limit blobs m o h = (manifest-numbers blobs m o h).1

-- so is its length of the history
pub told-length : (blobs : List (List ℕ)) (m : Members) (o : Options) → manifest_of blobs m ≡ Ok o → (2 ≤ o.history) × (o.history ≤ 1000000)
told-length blobs m o h = within-length (unwrap_or (option_and_then as_integer (get_member (codes "history") m)) (pos 100000)) o.history (manifest-numbers blobs m o h).0

-- and so many layers with options of such a length are no fault
pub sound-number : (has : Bool) (n : ℕ) (x : Options) (f : MountFault) → 0 < n → (has ≡ false → 2 ≤ n) → n ≤ 16 → 2 ≤ x.history → x.history ≤ 1000000 → mount_fault has n x ≡ Some f → ⊥
sound-number true n x f some two few least most h =
    let none : mount_fault true n x ≡ None = grind (arith, nat_tests, least, most) in cc
sound-number false n x f some two few least most h =
    let enough : 2 ≤ n = two refl in
    let none : mount_fault false n x ≡ None = grind (arith, nat_tests, least, most) in cc

-- so they are a mount, where their number and the options are no fault
pub no-fault : (n : ℕ) (o : Options) (upper : Option Tree) (lowers : List Tree) (f : MountFault) → (mount_fault (is_some upper) n o ≡ Some f → ⊥) → (is_some upper ≡ true → o.metacopy ≡ true → o.redirects ≡ true) → All HasNoMark (layers_given upper lowers) → IsFault n o (option_map layer_of upper) (map layer_of lowers) f → ⊥
no-fault n o None lowers f sound redirected all (inl h) = sound h
no-fault n o (Some U) lowers f sound redirected all (inl h) = sound h
no-fault n o upper lowers f sound redirected all (inr h) = no-bad o upper lowers redirected all h.2
