-- How the entries change. No public clause cites this module.
use Rattle.std.specs.Prelude.{◌≡◌, ◌≢◌, ℕ, Option, Some, None, []}
use Rattle.object_table.specs.declared.dentry.Unlisted.{Unlisted}
use Rattle.plain_model.specs.Layers.{Name, Path}
use Rattle.object_table.specs.declared.dentry.Dentry.{Dentry}
use Rattle.object_table.specs.declared.dentry.Place.{Place}
use Rattle.object_table.specs.declared.dentry.Place.TheVariants.{Root, In, Apart}
use Rattle.object_table.specs.Dentries.{Dentries, place_at, held, child_in, child, StandsAt}

-- nothing keeps the entry: it isn't the root, and has neither a handle nor a child
pub record IsIdle (e : Dentry) : Type 0 where
  pub not_root : e.place ≢ Root
  pub unheld : e.holders ≡ 0
  pub childless : e.children.entries ≡ []

-- what is known of what stands in no directory
abbrev pub left_unlisted : Place → Option Unlisted
left_unlisted Root = None
left_unlisted (In d n) = None
left_unlisted (Apart a) = Some a

-- the entry has this child at the name, or none, and is otherwise as it was
pub record Lists (old new : Dentry) (n : Name) (to : Option ℕ) : Type 0 where
  pub place : new.place ≡ old.place
  pub holders : new.holders ≡ old.holders
  pub there : child_in new n ≡ to
  pub others : (m : Name) → m ≢ n → child_in new m ≡ child_in old m

-- the entry is as it was, but for its children's order and room
pub record SameDentry (old new : Dentry) : Type 0 where
  pub place : new.place ≡ old.place
  pub holders : new.holders ≡ old.holders
  pub children : (m : Name) → child_in new m ≡ child_in old m

-- each entry is as it was
pub record SameEntries (old new : Dentries) : Type 0 where
  pub places : (k : ℕ) → place_at new k ≡ place_at old k
  pub counts : (k : ℕ) → held new k ≡ held old k
  pub children : (d : ℕ) (m : Name) → child new d m ≡ child old d m

-- an entry has this child at the name, or none, and every other name has the child that it had
pub record Rebinds (old new : Dentries) (d : ℕ) (n : Name) (to : Option ℕ) : Type 0 where
  pub there : child new d n ≡ to
  pub others : (e : ℕ) (m : Name) → ((e ≡ d) → (m ≡ n) → ⊥) → child new e m ≡ child old e m

-- the same, where each directory stands where it stood, with as many handles
pub record Relists (old new : Dentries) (d : ℕ) (n : Name) (to : Option ℕ) : Type 0 where
  pub places : (k : ℕ) → place_at new k ≡ place_at old k
  pub counts : (k : ℕ) → held new k ≡ held old k
  pub binds : Rebinds old new d n to

-- a directory has an entry now, as a child at this name
pub record Adds (old new : Dentries) (d : ℕ) (n : Name) (k : ℕ) : Type 0 where
  pub fresh : place_at old k ≡ None
  pub vacant : child old d n ≡ None
  pub placed : place_at new k ≡ Some (In d n)
  pub places : (j : ℕ) → j ≢ k → place_at new j ≡ place_at old j
  pub counts : (j : ℕ) → held new j ≡ held old j
  pub binds : Rebinds old new d n (Some k)

-- a child at this name is none any more: it has no entry, or was removed
pub record Unlinks (old new : Dentries) (k d : ℕ) (n : Name) (to : Option Place) : Type 0 where
  pub was : place_at old k ≡ Some (In d n)
  pub placed : place_at new k ≡ to
  pub places : (j : ℕ) → j ≢ k → place_at new j ≡ place_at old j
  pub counts : (j : ℕ) → held new j ≡ held old j
  pub binds : Rebinds old new d n None

-- a directory stands there now, and has the handles and children that it had
pub record Displaces (old new : Dentries) (k : ℕ) (to : Place) : Type 0 where
  pub placed : place_at new k ≡ Some to
  pub places : (j : ℕ) → j ≢ k → place_at new j ≡ place_at old j
  pub counts : (j : ℕ) → held new j ≡ held old j
  pub children : (d : ℕ) (m : Name) → child new d m ≡ child old d m

-- so many handles hold a directory
pub record Counts (old new : Dentries) (k count : ℕ) : Type 0 where
  pub places : (j : ℕ) → place_at new j ≡ place_at old j
  pub counted : held new k ≡ count
  pub counts : (j : ℕ) → j ≢ k → held new j ≡ held old j
  pub children : (d : ℕ) (m : Name) → child new d m ≡ child old d m

-- each directory stands where it stood
abbrev pub KeepsPaths : Dentries → Dentries → Type 0
KeepsPaths old new = (k : ℕ) (p : Path) → StandsAt old k p → StandsAt new k p

-- a directory stands in another, which has it as the child of that name
pub record IsListed (t : Dentries) (k : ℕ) : Type 0 where
  pub parent : ℕ
  pub name : Name
  pub placed : place_at t k ≡ Some (In parent name)
  pub listed : child t parent name ≡ Some k

-- each of two directories stands where the other one stood
pub record Exchanges (old new : Dentries) (k j : ℕ) : Type 0 where
  pub one : IsListed old k
  pub other : IsListed old j
  pub one_placed : place_at new k ≡ Some (In other.parent other.name)
  pub other_placed : place_at new j ≡ Some (In one.parent one.name)
  pub places : (i : ℕ) → i ≢ k → i ≢ j → place_at new i ≡ place_at old i
  pub counts : (i : ℕ) → held new i ≡ held old i
  pub one_listed : child new other.parent other.name ≡ Some k
  pub other_listed : child new one.parent one.name ≡ Some j
  pub children : (d : ℕ) (m : Name) → ((d ≡ one.parent) → (m ≡ one.name) → ⊥) → ((d ≡ other.parent) → (m ≡ other.name) → ⊥) → child new d m ≡ child old d m

-- an object that stands in no directory has an entry now, with one holder
pub record AddsAlone (old new : Dentries) (k : ℕ) (a : Unlisted) : Type 0 where
  pub fresh : place_at old k ≡ None
  pub placed : place_at new k ≡ Some (Apart a)
  pub places : (j : ℕ) → j ≢ k → place_at new j ≡ place_at old j
  pub unheld : held old k ≡ 0
  pub counted : held new k ≡ 1
  pub counts : (j : ℕ) → j ≢ k → held new j ≡ held old j
  pub children : (d : ℕ) (m : Name) → child new d m ≡ child old d m
