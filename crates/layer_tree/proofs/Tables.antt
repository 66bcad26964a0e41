-- What a name is bound to after a change of its table.
use Rattle.std.proofs.Common.{◌≡◌, ◌≢◌, ℕ, List, Some, None, Bool, true, false, cond, refl, ap, ◌∙◌}
use Rattle.std.specs.FinMap as map
use Rattle.std.specs.FinMap.{get-insert, get-remove}
use Rattle.std.specs.Str.{bytes_eq}
use Rattle.std.proofs.lemmas.Cmp.{nat_list_cmp_total, nat_list_eq_equiv}
use Rattle.std.proofs.lemmas.Slice.Eq.{bytes_eq-Decides}
use Rattle.std.proofs.lemmas.Map.Text.{is_eq-slice_cmp}
use Rattle.layer_tree.specs.Table.{NameMap}
use Rattle.layer_tree.specs.declared.name_table.Entry.{Entry}

different : (name other : List ℕ) → other ≢ name → bytes_eq other name ≡ false
different name other differs = of (bytes_eq other name) refl
  where
    of : (b : Bool) → bytes_eq other name ≡ b → b ≡ false
    of true e = absurd (differs ((bytes_eq-Decides other name).0 e))
    of false e = refl

pub get_put : (m : NameMap) (name : List ℕ) (e : Entry) → map.get (map.insert m name e) name ≡ Some e
get_put m name e =
    get-insert nat_list_cmp_total m name e name ∙ ap (λ b. cond b (Some e) (map.get m name)) (is_eq-slice_cmp name name ∙ nat_list_eq_equiv.refl name)

pub get_other : (m : NameMap) (name other : List ℕ) (e : Entry) → other ≢ name → map.get (map.insert m name e) other ≡ map.get m other
get_other m name other e differs =
    get-insert nat_list_cmp_total m name e other ∙ ap (λ b. cond b (Some e) (map.get m other)) (is_eq-slice_cmp other name ∙ different name other differs)

pub get_gone : (m : NameMap) (name : List ℕ) → map.get (map.remove m name) name ≡ None
get_gone m name =
    get-remove nat_list_cmp_total m name name ∙ ap (λ b. cond b None (map.get m name)) (is_eq-slice_cmp name name ∙ nat_list_eq_equiv.refl name)

pub get_left : (m : NameMap) (name other : List ℕ) → other ≢ name → map.get (map.remove m name) other ≡ map.get m other
get_left m name other differs =
    get-remove nat_list_cmp_total m name other ∙ ap (λ b. cond b None (map.get m other)) (is_eq-slice_cmp other name ∙ different name other differs)
