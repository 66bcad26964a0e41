-- A hash table of names, seen as a finite map.
use Rattle.std.proofs.Common.{◌≡◌, ℕ, zero, suc, length, slice_get, drop, arith, List, [], ◌∷◌, Bool, true, false, cond, Option, Some, None, refl, sym, ap, ◌∙◌, ◌+◌, get_or, true≢false}
use Rattle.std.specs.Prelude.{nat_eq}
use Rattle.std.specs.Ordering.{nat_cmp, is_eq, is_lt, ordering_reverse}
use Rattle.std.specs.declared.cmp.Ordering.{Ordering}
use Rattle.std.specs.declared.cmp.Ordering.TheVariants.{Less, Equal, Greater}
use Rattle.std.specs.List.{IsDistinct}
use Rattle.std.specs.List.Sorted.{IsSorted, IsPermutation, IsStrictlySortedBy}
use Rattle.std.proofs.lemmas.Map.Keys.{IsDistinct-IsPermutation, apart_from_distinct, sorted_from_all_adjacent}
use Rattle.std.specs.Cmp.Lexicographic.{slice_cmp, pointwise}
use Rattle.std.specs.FinMap as map
use Rattle.std.specs.FinMap.{find, get-from_entries, get-insert, get-remove, same_map, slice_cmp-IsAntisymmetric, nat_cmp-IsAntisymmetric}
use Rattle.std.specs.Map.{lookup}
use Rattle.std.proofs.lemmas.Map.Text.{is_eq-slice_cmp}
use Rattle.std.proofs.lemmas.Cmp.{nat_list_eq_equiv, nat_list_cmp_total}
use Rattle.std.specs.Global.{Box}
use Rattle.layer_tree.specs.Table.{NameMap, Table, entry_in, table_in}
use Rattle.layer_tree.specs.declared.name_table.Entry.{Entry}

abbrev pub name_eq : List ℕ → List ℕ → Bool
name_eq = pointwise nat_eq

abbrev pub entries_of : List (List ℕ × Entry) → NameMap
entries_of es = map.from_entries es

-- the scan of the finite map is the look-up of the table
pub find-lookup : (q : List ℕ) (es : List (List ℕ × Entry)) → find (slice_cmp nat_cmp) q es ≡ lookup (name_eq q) es
find-lookup q [] = refl
find-lookup q (e ∷ es) = ap (λ b. cond b (Some e.1) (find (slice_cmp nat_cmp) q es)) (is_eq-slice_cmp q e.0) ∙ ap (λ o. cond (name_eq q e.0) (Some e.1) o) (find-lookup q es)

pub get-entries_of : (es : List (List ℕ × Entry)) (q : List ℕ) → map.get (entries_of es) q ≡ lookup (name_eq q) es
get-entries_of es q = get-from_entries nat_list_cmp_total es q ∙ find-lookup q es

pub same_names : (m n : NameMap) → ((q : List ℕ) → map.get m q ≡ map.get n q) → m ≡ n
same_names m n h = same_map nat_list_cmp_total (slice_cmp-IsAntisymmetric nat_cmp-IsAntisymmetric) m n h

-- tables that find alike are one map
pub entries_of_alike : (es fs : List (List ℕ × Entry)) → ((q : List ℕ) → lookup (name_eq q) fs ≡ lookup (name_eq q) es) → entries_of fs ≡ entries_of es
entries_of_alike es fs h = same_names _ _ (λ q. get-entries_of fs q ∙ h q ∙ sym (get-entries_of es q))

pub entries_of_insert : (es fs : List (List ℕ × Entry)) (name : List ℕ) (to : Entry) → ((q : List ℕ) → lookup (name_eq q) fs ≡ cond (name_eq name q) (Some to) (lookup (name_eq q) es)) → entries_of fs ≡ map.insert (entries_of es) name to
entries_of_insert es fs name to h =
    same_names _ _ (λ q. get-entries_of fs q ∙ h q ∙ ap (λ b. cond b (Some to) (lookup (name_eq q) es)) (nat_list_eq_equiv.symm name q ∙ sym (is_eq-slice_cmp q name)) ∙ ap (λ o. cond (is_eq (slice_cmp nat_cmp q name)) (Some to) o) (sym (get-entries_of es q)) ∙ sym (get-insert nat_list_cmp_total (entries_of es) name to q))

pub entries_of_remove : (es fs : List (List ℕ × Entry)) (name : List ℕ) → ((q : List ℕ) → lookup (name_eq q) fs ≡ cond (name_eq name q) None (lookup (name_eq q) es)) → entries_of fs ≡ map.remove (entries_of es) name
entries_of_remove es fs name h =
    same_names _ _ (λ q. get-entries_of fs q ∙ h q ∙ ap (λ b. cond b None (lookup (name_eq q) es)) (nat_list_eq_equiv.symm name q ∙ sym (is_eq-slice_cmp q name)) ∙ ap (λ o. cond (is_eq (slice_cmp nat_cmp q name)) None o) (sym (get-entries_of es q)) ∙ sym (get-remove nat_list_cmp_total (entries_of es) name q))

pub nil_of_len : (es : List (List ℕ × Entry)) → length es ≡ 0 → es ≡ []
nil_of_len [] e = refl
nil_of_len (x ∷ es) e = absurd (omega arith)

pub len_of_entries_of : (es : List (List ℕ × Entry)) → entries_of es ≡ map.empty → length es ≡ 0
len_of_entries_of [] e = refl
len_of_entries_of (x ∷ es) e =
    let some : Some x.1 ≡ None =
    sym (ap (λ b. cond b (Some x.1) (lookup (name_eq x.0) es)) (nat_list_eq_equiv.refl x.0))
    ∙ sym (get-entries_of (x ∷ es) x.0) ∙ ap (λ m. map.get m x.0) e ∙ map.get-empty (slice_cmp nat_cmp) x.0 in
    absurd (cc)

-- names that are sorted and differ rise
pub sorted_apart : (xs ys : List (List ℕ)) → IsPermutation xs ys → IsDistinct name_eq xs → IsSorted (slice_cmp nat_cmp) ys → IsStrictlySortedBy (slice_cmp nat_cmp) ys
sorted_apart xs ys permuted distinct sorted =
    sorted_from_all_adjacent nat_list_cmp_total ys [] (λ k within. less (get_or ys k []) (get_or ys (k + 1) []) (slice_cmp nat_cmp (get_or ys (k + 1) []) (get_or ys k [])) refl (sorted k [] (omega arith) within) (apart_from_distinct name_eq ys k (k + 1) [] apart (omega arith) within))
  where
    apart : IsDistinct name_eq ys
    apart = IsDistinct-IsPermutation name_eq nat_list_eq_equiv.symm xs ys permuted distinct

    less : (a b : List ℕ) (o : Ordering) → slice_cmp nat_cmp b a ≡ o → is_lt o ≡ false → name_eq a b ≡ false → slice_cmp nat_cmp a b ≡ Less
    less a b Less is not_less differs = absurd (true≢false not_less)
    less a b Equal is not_less differs =
        let tie : slice_cmp nat_cmp a b ≡ Equal = nat_list_cmp_total.antisymm a b ∙ ap ordering_reverse is in
        absurd (true≢false (sym (ap is_eq tie) ∙ is_eq-slice_cmp a b ∙ differs))
    less a b Greater is not_less differs = nat_list_cmp_total.antisymm a b ∙ ap ordering_reverse is

pub none_sorted : IsStrictlySortedBy (slice_cmp nat_cmp) []
unfolding IsStrictlySortedBy
none_sorted = tt

-- a choice between the same
same_cond : (o : Option Entry) (b : Bool) → o ≡ cond b o o
same_cond o true = refl
same_cond o false = refl

-- no name is left where none was
remove_none : (name : List ℕ) → map.remove (entries_of []) name ≡ entries_of []
remove_none name = sym (entries_of_remove [] [] name (λ q. same_cond None (name_eq name q)))

-- a table that was not made has no names and no room
pub unmade : (h : Option (Box Table)) (t : Table) → h ≡ None → table_in h ≡ t → t ≡ record { entries = map.empty; spare = 0 }
unmade h t none is = sym is ∙ ap table_in none

-- at each name it has nothing
pub unmade_entry : (h : Option (Box Table)) (t : Table) (name : List ℕ) → h ≡ None → table_in h ≡ t → None ≡ entry_in t name
unmade_entry h t name none is = sym (ap (λ (t : Table). entry_in t name) (unmade h t none is) ∙ map.get-empty (slice_cmp nat_cmp) name)

-- taking a name out changes nothing
pub unmade_remove : (h : Option (Box Table)) (t : Table) (name : List ℕ) → h ≡ None → table_in h ≡ t → (table_in h).entries ≡ map.remove t.entries name
unmade_remove h t name none is =
    ap (λ (o : Option (Box Table)). (table_in o).entries) none ∙ sym (remove_none name) ∙ sym (ap (λ (t : Table). map.remove t.entries name) (unmade h t none is))

-- a look-up from an entry on: the entry's name is the one that is asked, or it isn't
pub lookup-here : (es : List (List ℕ × Entry)) (i : ℕ) (q : List ℕ) (e : List ℕ × Entry) → slice_get es i ≡ Some e → name_eq q e.0 ≡ true → lookup (name_eq q) (drop i es) ≡ Some e.1
lookup-here [] zero q e at h = cc
lookup-here [] (suc i) q e at h = cc
lookup-here (x ∷ xs) zero q e at h =
    let is : x ≡ e = cc in
    ap (λ (z : List ℕ × Entry). cond (name_eq q z.0) (Some z.1) (lookup (name_eq q) xs)) is ∙ ap (λ b. cond b (Some e.1) (lookup (name_eq q) xs)) h
lookup-here (x ∷ xs) (suc i) q e at h = lookup-here xs i q e at h

pub lookup-past : (es : List (List ℕ × Entry)) (i : ℕ) (q : List ℕ) (e : List ℕ × Entry) → slice_get es i ≡ Some e → name_eq q e.0 ≡ false → lookup (name_eq q) (drop i es) ≡ lookup (name_eq q) (drop (suc i) es)
lookup-past [] zero q e at h = cc
lookup-past [] (suc i) q e at h = cc
lookup-past (x ∷ xs) zero q e at h =
    let is : x ≡ e = cc in
    ap (λ (z : List ℕ × Entry). cond (name_eq q z.0) (Some z.1) (lookup (name_eq q) xs)) is ∙ ap (λ b. cond b (Some e.1) (lookup (name_eq q) xs)) h
lookup-past (x ∷ xs) (suc i) q e at h = lookup-past xs i q e at h
