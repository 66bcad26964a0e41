-- What a layer of a mount may be: which names, attributes and contents its objects have, and how long the texts of its paths are
-- (Linux's NAME_MAX and PATH_MAX; chmod(2), chown(2), symlink(2) and setxattr(2)).
use Rattle.std.specs.Prelude.{◌≡◌, ◌≢◌, ℕ, ◌+◌, ◌≤◌, Bool, true, false, List, [], ◌∷◌, Option, None, Some, is_some, length, All, bytes_eq, IsTrue}
use Rattle.std.specs.List.{IsDistinct}
use Rattle.std.specs.Map.{keys_of}
use Rattle.ov_base.specs.Names.{is_name}
use Rattle.ov_base.specs.declared.attributes.Attributes.{Attributes}
use Rattle.ov_base.specs.declared.bytes.Content.{Content}
use Rattle.ov_base.specs.declared.bytes.Content.TheVariants.{File, SymbolicLink}
use Rattle.ov_base.specs.declared.redirect.Redirect.{Redirect}
use Rattle.ov_base.specs.declared.redirect.Redirect.TheVariants.{Absolute, Single}
use Rattle.plain_model.specs.Layers.{Path, Directory, Named, Inode, Layer, held}
use Rattle.plain_model.specs.Refusals.{has_nul, bad_attribute}

-- the attributes of an object
pub record AreAttributesWithin (a : Attributes) : Type 0 where
  -- the mode has twelve bits
  pub mode : a.mode ≤ 0o7777
  -- the owner and the group have 32 bits
  pub uid : a.uid ≤ 4294967295
  pub gid : a.gid ≤ 4294967295
  -- at most 64 user attributes
  pub few : length a.user ≤ 64
  -- each has a name that setxattr takes
  pub names : All (λ x. bad_attribute x.0 ≡ None) a.user
  -- and a value of at most 1,024 bytes
  pub values : All (λ x. length x.1 ≤ 1024) a.user
  -- no name stands there twice
  pub once : IsDistinct bytes_eq (keys_of a.user)

-- the target of a symbolic link: 1 to 4,095 bytes without NUL
pub record IsTargetWithin (target : List ℕ) : Type 0 where
  pub some : 1 ≤ length target
  pub short : length target ≤ 4095
  pub plain : has_nul target ≡ false

-- a file has at most so many bytes, a symbolic link a target
abbrev pub IsContentWithin : ℕ → Content → Type 0
IsContentWithin limit (File bytes) = length bytes ≤ limit
IsContentWithin limit (SymbolicLink target) = IsTargetWithin target

-- each name of a path is one
abbrev pub IsOfNames : Path → Type 0
IsOfNames p = All (λ n. IsTrue (is_name n)) p

-- a redirect is one name, or a path of at least one
abbrev pub IsRedirectWithin : Redirect → Type 0
IsRedirectWithin (Single n) = IsTrue (is_name n)
IsRedirectWithin (Absolute q) = (q ≢ []) × IsOfNames q

-- WHAT A LAYER OF A MOUNT MAY BE whose files have at most so many bytes, but for the length of its paths
pub record IsWithinLimits (limit : ℕ) (L : Layer) : Type 0 where
  -- a path that it holds consists of names
  pub names : (p : Path) → is_some (held L p) ≡ true → IsOfNames p
  -- the attributes of its directories, the root's among them
  pub directories : (p : Path) (k : ℕ) (a : Attributes) (o : Bool) (r : Option Redirect) → held L p ≡ Some (Directory k a o r) → AreAttributesWithin a
  -- its redirects
  pub redirects : (p : Path) (k : ℕ) (a : Attributes) (o : Bool) (r : Redirect) → held L p ≡ Some (Directory k a o (Some r)) → IsRedirectWithin r
  -- the attributes of each inode that has a name, and what it holds
  pub attributes : (p : Path) (k : ℕ) (i : Inode) → held L p ≡ Some (Named k) → L.inodes k ≡ Some i → AreAttributesWithin i.attributes
  pub contents : (p : Path) (k : ℕ) (i : Inode) → held L p ≡ Some (Named k) → L.inodes k ≡ Some i → IsContentWithin limit i.content

-- how many bytes the names of a path take in its text, each with the `/` before it
abbrev pub text_length : Path → ℕ
text_length [] = 0
text_length (n ∷ p) = text_length p + 1 + length n

-- THE PATHS OF A LAYER ARE SHORT: a text of at most 4,095 bytes spells each that it holds, and each that a redirect leads to. What is
-- renamed later can lie deeper.
pub record HasShortPaths (L : Layer) : Type 0 where
  pub paths : (p : Path) → is_some (held L p) ≡ true → text_length p ≤ 4095
  pub redirects : (p : Path) (k : ℕ) (a : Attributes) (o : Bool) (q : Path) → held L p ≡ Some (Directory k a o (Some (Absolute q))) → text_length q ≤ 4095
