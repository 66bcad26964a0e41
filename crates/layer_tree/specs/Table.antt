-- What a contract sees of a directory's table of names: a finite map from names to entries, and how many more names fit with no allocation.
use Rattle.std.specs.Prelude.{◌≡◌, ℕ, List, Option, Some, None, refl}
use Rattle.std.specs.Ordering.{nat_cmp}
use Rattle.std.specs.Cmp.Lexicographic.{slice_cmp}
use Rattle.std.specs.Coded.{Coded, code_by, coded×, coded_ℕ, coded_list, coded_option}
use Rattle.std.specs.FinMap as map
use Rattle.std.specs.Global.{Box}
use Rattle.layer_tree.specs.declared.name_table.Entry.{Entry}
use Rattle.layer_tree.specs.declared.name_table.Entry.TheVariants as bound

-- the key of the object, and none for a whiteout
abbrev pub object_key : Entry → Option ℕ
object_key (bound.Object key) = Some key
object_key bound.Whiteout = None

abbrev entry_with : Option ℕ → Entry
entry_with (Some key) = bound.Object key
entry_with None = bound.Whiteout

abbrev entry_with_key : (e : Entry) → entry_with (object_key e) ≡ e
entry_with_key (bound.Object key) = refl
entry_with_key bound.Whiteout = refl

-- an entry is stored as the key that it may have
abbrev pub entry_code : Coded Entry
entry_code = code_by (Option ℕ) (coded_option coded_ℕ) object_key entry_with entry_with_key

abbrev pub NameMap : Type 0
NameMap = map.FinMap (slice_cmp nat_cmp) Entry

pub record Table : Type 0 where
  pub entries : NameMap
  pub spare : ℕ

-- a table is stored as the pair of its fields
abbrev pub table_code : Coded Table
table_code =
    code_by (NameMap × ℕ) (coded× (map.code (coded_list coded_ℕ) entry_code) coded_ℕ) (λ t. (t.entries, t.spare)) (λ p. record { entries = p.0; spare = p.1 }) (λ _. refl)

-- the entry at a name
abbrev pub entry_in : Table → List ℕ → Option Entry
entry_in t name = map.get t.entries name

-- a table that may not have been made
abbrev pub table_in : Option (Box Table) → Table
table_in (Some hashed) = hashed.value
table_in None = record { entries = map.empty; spare = 0 }
