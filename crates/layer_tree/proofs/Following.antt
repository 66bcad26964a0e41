-- How a walk along the names of a path, from the root down, comes to what stands there.
use Rattle.std.proofs.Common.{◌≡◌, ℕ, ◌+◌, ◌<◌, ◌≤◌, List, [], ◌∷◌, ◌++◌, length, reverse, get_or, drop, Option, Some, None, refl, sym, ap, ◌∙◌}
use Rattle.std.specs.Option.{option_and_then}
use Rattle.std.proofs.lemmas.List.{drop_more, drop_all, reverse-append}
use Rattle.plain_model.specs.Layers.{Path}
use Rattle.layer_tree.specs.Table.{object_key}
use Rattle.layer_tree.specs.Tree.{Tree, ROOT, entry, entry_at}
use Rattle.layer_tree.specs.declared.name_table.Entry.{Entry}
use Rattle.layer_tree.specs.declared.name_table.Entry.TheVariants as to
use Rattle.layer_tree.proofs.Changing.{key_of_entry}

-- what a name leads to from an entry: from a whiteout nothing
abbrev pub onward : Tree → Entry → List ℕ → Option Entry
onward t (to.Object key) name = entry t key name
onward t to.Whiteout name = None

-- what these names lead to from an entry, the first name first
abbrev pub follow : Tree → Entry → List (List ℕ) → Option Entry
follow t e [] = Some e
follow t e (name ∷ names) = option_and_then (λ f. follow t f names) (onward t e name)

follow-push : (t : Tree) (e : Entry) (names : List (List ℕ)) (n : List ℕ) → follow t e (names ++ n ∷ []) ≡ option_and_then (λ f. onward t f n) (follow t e names)
follow-push t e [] n = of (onward t e n)
  where
    of : (o : Option Entry) → option_and_then (λ f. Some f) o ≡ o
    of None = refl
    of (Some f) = refl
follow-push t e (m ∷ names) n = of (onward t e m) (λ f. follow-push t f names n)
  where
    of : (o : Option Entry) → ((f : Entry) → follow t f (names ++ n ∷ []) ≡ option_and_then (λ g. onward t g n) (follow t f names)) → option_and_then (λ f. follow t f (names ++ n ∷ [])) o ≡ option_and_then (λ f. onward t f n) (option_and_then (λ f. follow t f names) o)
    of None later = refl
    of (Some f) later = later f

-- the names of a path from the root down lead to what stands at the path
pub follow-path : (t : Tree) (p : Path) → follow t (to.Object ROOT) (reverse p) ≡ entry_at t p
follow-path t [] = refl
follow-path t (n ∷ p) =
    ap (follow t (to.Object ROOT)) (reverse-append (n ∷ []) p)
    ∙ follow-push t (to.Object ROOT) (reverse p) n
    ∙ ap (option_and_then (λ f. onward t f n)) (follow-path t p)
    ∙ of (entry_at t p)
    ∙ sym (ap (option_and_then (λ k. entry t k n)) (key_of_entry t p))
  where
    of : (o : Option Entry) → option_and_then (λ f. onward t f n) o ≡ option_and_then (λ k. entry t k n) (option_and_then object_key o)
    of None = refl
    of (Some (to.Object k)) = refl
    of (Some to.Whiteout) = refl

module _ (t : Tree) (names : List (List ℕ)) (i : ℕ) where
  -- one name on
  pub follow-on : (e : Entry) (name : List ℕ) → i < length names → name ≡ get_or names i name → follow t e (drop i names) ≡ option_and_then (λ f. follow t f (drop (i + 1) names)) (onward t e name)
  follow-on e name within is = ap (follow t e) (drop_more names i name within ∙ ap (λ x. x ∷ drop (i + 1) names) (sym is))

  pub follow-end : (e : Entry) → length names ≤ i → follow t e (drop i names) ≡ Some e
  follow-end e past = ap (follow t e) (drop_all i names past)
