-- What a contract sees of the directories of a mount that are open: where each one stands, by its number, and how many handles hold it.
use Rattle.std.specs.Prelude.{◌≡◌, ◌≢◌, ◌⊎◌, ℕ, ◌+◌, [], ◌∷◌, ◌++◌, Option, Some, None, option_map, cond, nat_eq}
use Rattle.std.specs.Option.{option_and_then}
use Rattle.slab.specs.Slab.{get}
use Rattle.ov_base.specs.declared.attributes.Attributes.{Attributes}
use Rattle.object_table.specs.declared.dentry.Unlisted.{Unlisted}
use Rattle.object_table.specs.declared.dentry.Unlisted.TheVariants as unlisted
use Rattle.plain_model.specs.Layers.{Name, Path, same_path}
use Rattle.object_table.specs.declared.dentry.Dentry.{Dentry}
use Rattle.object_table.specs.declared.dentry.Place.{Place}
use Rattle.object_table.specs.declared.dentry.Place.TheVariants as place
use Rattle.object_table.specs.Dentries as dentries
use Rattle.object_table.specs.Dentries.{Dentries, path_of}

-- Where an open directory stands: at a path, or under no path, with the attributes that it had when it was removed.
pub data Location : Type 0 where
  At : Path → Location
  Apart : Unlisted → Location

-- where the directory of an entry stands
abbrev pub location : Dentries → ℕ → Place → Option Location
location t k (place.Apart a) = Some (Apart a)
location t k (place.In d n) = option_map At (path_of t k)
location t k place.Root = option_map At (path_of t k)

-- where the directory of a number stands, if a handle holds it
unfoldable pub opened : Dentries → ℕ → Option Location
opened t k = option_and_then (λ (e : Dentry). cond (nat_eq e.holders 0) None (location t k e.place)) (get t k)

-- how many handles hold a number
unfoldable pub holders : Dentries → ℕ → ℕ
holders t k = dentries.held t k

-- the path at which an open directory stands
abbrev pub path_in : Location → Option Path
path_in (At p) = Some p
path_in (Apart a) = None

-- what is known of an object that stands in no directory
abbrev pub unlisted_in : Location → Option Unlisted
unlisted_in (At p) = None
unlisted_in (Apart a) = Some a

-- the attributes of an open directory that was removed
abbrev pub attributes_in : Location → Option Attributes
attributes_in (At p) = None
attributes_in (Apart (unlisted.Removed a)) = Some a
attributes_in (Apart (unlisted.Upper key)) = None
attributes_in (Apart unlisted.Nowhere) = None

-- where an open directory stands after the one at a path was removed
abbrev pub after_removal : Path → Unlisted → Location → Location
after_removal p a (At q) = cond (same_path p q) (Apart a) (At q)
after_removal p a (Apart b) = Apart b

-- every number stands where it stood, and as many handles hold it
pub record SameHandles (old new : Dentries) : Type 0 where
  pub located : (k : ℕ) → opened new k ≡ opened old k
  pub counted : (k : ℕ) → holders new k ≡ holders old k

-- every number but this one stands where it stood, and as many handles hold it
pub record SameOthers (old new : Dentries) (k : ℕ) : Type 0 where
  pub located : (j : ℕ) → j ≢ k → opened new j ≡ opened old j
  pub counted : (j : ℕ) → j ≢ k → holders new j ≡ holders old j

-- One more handle holds the directory at the path under this number: the one that is open at the path, or one that wasn't opened.
pub record Opens (old new : Dentries) (p : Path) (k : ℕ) : Type 0 where
  pub located : opened new k ≡ Some (At p)
  pub counted : holders new k ≡ holders old k + 1
  pub was : (opened old k ≡ Some (At p)) ⊎ (opened old k ≡ None)
  pub only : (j : ℕ) → opened old j ≡ Some (At p) → j ≡ k
  pub others : SameOthers old new k

-- One handle less holds the number, which isn't opened any more where that was the last.
pub record Closes (old new : Dentries) (k : ℕ) : Type 0 where
  pub located : opened new k ≡ cond (nat_eq (holders new k) 0) None (opened old k)
  pub counted : holders new k + 1 ≡ holders old k
  pub others : SameOthers old new k

-- The directory that is open at the path is a removed one now, with these attributes, and as many handles hold it.
pub record Removes (old new : Dentries) (p : Path) (a : Unlisted) : Type 0 where
  pub located : (k : ℕ) → opened new k ≡ option_map (after_removal p a) (opened old k)
  pub counted : (k : ℕ) → holders new k ≡ holders old k

-- no directory below the path is open
abbrev pub NoneBelow : Dentries → Path → Type 0
NoneBelow t p = (k : ℕ) (n : Name) (r : Path) → opened t k ≢ Some (At (n ∷ (r ++ p)))

-- The object of this number stands in no directory now, and this is known of it; as many hold each.
pub record SetsApart (old new : Dentries) (k : ℕ) (a : Unlisted) : Type 0 where
  pub located : opened new k ≡ Some (Apart a)
  pub counted : (j : ℕ) → holders new j ≡ holders old j
  pub others : (j : ℕ) → j ≢ k → opened new j ≡ opened old j

-- An object that stands in no directory has this number now, which was nobody's, and one holds it.
pub record AddsApart (old new : Dentries) (k : ℕ) (a : Unlisted) : Type 0 where
  pub fresh : opened old k ≡ None
  pub located : opened new k ≡ Some (Apart a)
  pub unheld : holders old k ≡ 0
  pub counted : holders new k ≡ 1
  pub others : SameOthers old new k

-- So many hold the number, which is nobody's where none does.
pub record SetsHolders (old new : Dentries) (k count : ℕ) : Type 0 where
  pub located : opened new k ≡ cond (nat_eq count 0) None (opened old k)
  pub counted : holders new k ≡ count
  pub others : SameOthers old new k

-- Where the object of a number stands in a directory, it isn't the root, and nothing below it is held.
abbrev pub IsBare : Dentries → ℕ → Type 0
IsBare t k = (p : Path) → opened t k ≡ Some (At p) → (p ≢ []) × NoneBelow t p
