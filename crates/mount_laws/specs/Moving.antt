-- Uppers in which an object moved from one path to another, and what the layers show then (rename(2); overlayfs.rst, "redirect_dir" and
-- "Non-directories": a file of a lower layer is copied up first).
use Rattle.std.specs.Prelude.{◌≡◌, ◌↔◌, ℕ, suc, ◌-◌, ◌<◌, Bool, false, ◌&&◌, List, ◌∷◌, ◌++◌, Option, None, Some, option_map, ◌⊎◌}
use Rattle.ov_base.specs.declared.attributes.Attributes.{Attributes}
use Rattle.ov_base.specs.declared.redirect.Redirect.{Redirect}
use Rattle.plain_model.specs.Layers.{Name, Path, Directory, Named, Inode, Layer, held, Folder, Contents, shows, is_file, AreLayers}
use Rattle.plain_model.specs.Laws.{IsOutside, Placed, left_at, Moved}
use Rattle.plain_model.specs.Tree.{Own, Untouched, Sight, SeenBranch, SeenLeaf, merged, AreLinked, IsThin}
use Rattle.mount_laws.specs.Removals.{fewer}
use Rattle.mount_laws.specs.Altered.{Alters}

-- Where what stood at x stands after the move of old to new: it went along, with what stood below old, or it stays, outside both places.
pub data Follows (old new x y : Path) : Type 0 where
  Goes : (r : Path) → x ≡ r ++ old → y ≡ r ++ new → Follows old new x y
  Stays : IsOutside old x → IsOutside new x → y ≡ x → Follows old new x y

-- what is seen of an object that moved: a file or link of a lower layer is the upper's own then, and has one name
abbrev pub moved_sight : Bool → Sight → Sight
moved_sight low (SeenBranch a b) = SeenBranch a b
moved_sight low (SeenLeaf content a (Own m) l) = SeenLeaf content a (Own m) l
moved_sight low (SeenLeaf content a (Untouched k) l) = SeenLeaf content a (Own (low && is_file content)) 1

-- The upper V shows nothing at old or below, at new what U showed at old, and below new what U showed below old. Elsewhere it shows what U
-- did, but one name fewer at the other names of an inode that new named. Two paths name one inode of V where the paths that they follow do
-- in U; one path may have an inode of its own there that it had not.
pub record MovesTo (U V : Layer) (lowers : List Layer) (low : Bool) (old new : Path) : Type 0 where
  pub layers : AreLayers (V ∷ lowers)
  pub gone : (r : Path) → merged V lowers (r ++ old) ≡ None
  pub here : merged V lowers new ≡ option_map (moved_sight low) (merged U lowers old)
  pub beneath : (k : Name) (r : Path) → merged V lowers (k ∷ r ++ new) ≡ merged U lowers (k ∷ r ++ old)
  pub linked : (x : Path) → IsOutside old x → IsOutside new x → AreLinked U new x → merged V lowers x ≡ fewer (merged U lowers x)
  pub others : (x : Path) → IsOutside old x → IsOutside new x → (AreLinked U new x → ⊥) → merged V lowers x ≡ merged U lowers x
  pub earlier : (x y p q : Path) → Follows old new x p → Follows old new y q → AreLinked V p q → (x ≡ y) ⊎ AreLinked U x y
  pub later : (x y p q : Path) → Follows old new x p → Follows old new y q → AreLinked U x y → AreLinked V p q

-- The upper V is U with the inode that old named named by new in place of what that named, and not by old. An inode that loses a name so
-- has a link fewer, where it has more than one; other inodes stay.
pub record MovesName (U V : Layer) (lowers : List Layer) (old new : Path) : Type 0 where
  pub number : ℕ
  pub source : held U old ≡ Some (Named number)
  pub here : held V new ≡ Some (Named number)
  pub left : held V old ≡ left_at U lowers old
  pub emptied : (k : Name) (r : Path) → held V (k ∷ r ++ old) ≡ None
  pub beneath : (k : Name) (r : Path) → held V (k ∷ r ++ new) ≡ None
  pub elsewhere : (x : Path) → IsOutside old x → IsOutside new x → held V x ≡ held U x
  pub fewer :
      (k : ℕ) (i : Inode) → held U new ≡ Some (Named k) → U.inodes k ≡ Some i → 1 < i.links →
      V.inodes k ≡ Some (record i { links = i.links - 1 })
  pub inodes : (k : ℕ) → (held U new ≡ Some (Named k) → ⊥) → V.inodes k ≡ U.inodes k

-- a name of the upper's that doesn't take the place of another name of its inode moves and no more
abbrev pub LawOfMovedName : Type 0
LawOfMovedName =
    (U V : Layer) (lowers : List Layer) → AreLayers (U ∷ lowers) → AreLayers (V ∷ lowers) →
    (low : Bool) (old new : Path) → IsOutside old new → IsOutside new old → (AreLinked U old new → ⊥) →
    MovesName U V lowers old new → MovesTo U V lowers low old new

-- The upper V is U with the directory at old, whose number and attributes stay, moved to n in q; the inodes stay.
pub record MovesDirectory (U V : Layer) (lowers : List Layer) (old : Path) (n : Name) (q : Path) : Type 0 where
  pub moved : Moved U V lowers old n q
  pub opaque : Bool
  pub redirect : Option Redirect
  pub source : held U old ≡ Some (Directory moved.number moved.attributes opaque redirect)
  pub inodes : V.inodes ≡ U.inodes

-- the upper names no inode at p
abbrev pub NamesNoInode : Layer → Path → Type 0
NamesNoInode U p = (k : ℕ) → held U p ≡ Some (Named k) → ⊥

-- a directory of the upper's that doesn't take the place of a name of an inode moves and no more
abbrev pub LawOfMovedDirectory : Type 0
LawOfMovedDirectory =
    (U V : Layer) (lowers : List Layer) → AreLayers (U ∷ lowers) → AreLayers (V ∷ lowers) →
    (low : Bool) (old : Path) (n : Name) (q : Path) → IsOutside old (n ∷ q) → IsOutside (n ∷ q) old → NamesNoInode U (n ∷ q) →
    MovesDirectory U V lowers old n q → MovesTo U V lowers low old (n ∷ q)

-- so it is with a file or link of a lower layer, which is copied up first, to W, with the attributes that it shows
abbrev pub LawOfCopiedMove : Type 0
LawOfCopiedMove =
    (U W V : Layer) (lowers : List Layer) (low : Bool) (old new : Path) (j l : ℕ) (i : Inode) →
    shows 0 (U ∷ lowers) old ≡ Some (Contents (suc j) l (Some i)) →
    Alters U W lowers low old i.attributes → MovesTo W V lowers low old new → MovesTo U V lowers low old new

-- and where the upper that moves it, W, shows the same as U, and names inodes by the same paths
abbrev pub LawOfSameMove : Type 0
LawOfSameMove =
    (U W V : Layer) (lowers : List Layer) →
    ((x : Path) → merged W lowers x ≡ merged U lowers x) → ((x y : Path) → AreLinked W x y ↔ AreLinked U x y) →
    (low : Bool) (old new : Path) → MovesTo W V lowers low old new → MovesTo U V lowers low old new

-- as where it gets a directory first that a lower layer has, with the attributes that are shown and no marks
abbrev pub LawOfPlacedMove : Type 0
LawOfPlacedMove =
    (U W V : Layer) (lowers : List Layer) → AreLayers (U ∷ lowers) →
    (n : Name) (p : Path) (i j k : ℕ) (a : Attributes) → held U (n ∷ p) ≡ None → shows 0 (U ∷ lowers) (n ∷ p) ≡ Some (Folder i j a) →
    Placed U W (n ∷ p) (Some (Directory k a false None)) →
    (low : Bool) (old new : Path) → MovesTo W V lowers low old new → MovesTo U V lowers low old new

-- an upper without needless whiteouts stays one where a name or a directory of it moves
pub record KeepsThinMoves (U V : Layer) (lowers : List Layer) (old : Path) (n : Name) (q : Path) : Type 0 where
  pub name : MovesName U V lowers old (n ∷ q) → IsThin V lowers
  pub directory : MovesDirectory U V lowers old n q → IsThin V lowers

abbrev pub LawOfThinMoves : Type 0
LawOfThinMoves =
    (U V : Layer) (lowers : List Layer) → AreLayers lowers → IsThin U lowers →
    (old : Path) (n : Name) (q : Path) → IsOutside old (n ∷ q) → IsOutside (n ∷ q) old → KeepsThinMoves U V lowers old n q
