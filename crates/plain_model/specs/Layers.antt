-- Layers, and what a list of them shows at a path (Linux's Documentation/filesystems/overlayfs.rst: "Upper and Lower", "Directories",
-- "whiteouts and opaque directories", "Multiple lower layers", "redirect_dir").
use Rattle.std.specs.Prelude.{◌≡◌, ◌≢◌, ◌↔◌, ℕ, suc, Bool, true, false, not, ◌&&◌, ◌||◌, List, [], ◌∷◌, Option, None, Some, is_some, length, bytes_eq, option_map}
use Rattle.std.specs.List.{list_any, IsDistinct}
use Rattle.std.specs.Cmp.Lexicographic.{pointwise}
use Rattle.ov_base.specs.declared.attributes.Attributes.{Attributes}
use Rattle.ov_base.specs.declared.bytes.Content.{Content}
use Rattle.ov_base.specs.declared.bytes.Content.TheVariants.{File, SymbolicLink}
use Rattle.ov_base.specs.declared.redirect.Redirect.{Redirect}
use Rattle.ov_base.specs.declared.redirect.Redirect.TheVariants.{Absolute, Single}

abbrev pub Name : Type 0
Name = List ℕ

-- A path has its last name first: n ∷ p is the name n in the directory p, and r ++ p is p followed by r.
abbrev pub Path : Type 0
Path = List Name

-- What a layer holds at a path: a directory by its number, with its attributes, whether it is opaque, and its redirect;
-- a name of an inode, which is a file or a symbolic link; or a whiteout.
pub data Object : Type 0 where
  Directory : ℕ → Attributes → Bool → Option Redirect → Object
  Named : ℕ → Object
  Whiteout : Object

-- A file or symbolic link of a layer, and how many names it has there. A file with a mark has no bytes of its own: they are those of the
-- file that the layers below show at the mark's path (overlayfs.rst, "Metadata only copy up").
pub record Inode : Type 0 where
  pub content : Content
  pub attributes : Attributes
  pub links : ℕ
  pub mark : Option Path

-- A layer is two look-ups: what it holds below the root at a path, and its inodes by their numbers. Beside them, the root's attributes.
pub record Layer : Type 0 where
  pub root : Attributes
  pub objects : Path → Option Object
  pub inodes : ℕ → Option Inode

-- what is held at a path, where the root has these attributes and these objects are below it
abbrev pub held_by : Attributes → (Path → Option Object) → Path → Option Object
held_by a objects [] = Some (Directory 0 a false None)
held_by a objects (n ∷ p) = objects (n ∷ p)

-- what the layer holds at a path; its root is a directory without marks, with the number 0
abbrev pub held : Layer → Path → Option Object
held L = held_by L.root L.objects

-- the spelling of n in p for the next layer, s being that of p
abbrev pub spell : Option Object → Name → Path → Path
spell (Some (Directory k a o (Some (Absolute q)))) n s = q
spell (Some (Directory k a o (Some (Single m)))) n s = m ∷ s
spell _ n s = n ∷ s

-- the spelling of a path for the next layer, where these objects are held
abbrev pub below_by : (Path → Option Object) → Path → Path
below_by holds [] = []
below_by holds (n ∷ p) = spell (holds (n ∷ p)) n (below_by holds p)

-- the spelling of a path for the next layer
abbrev pub below : Layer → Path → Path
below L = below_by (held L)

-- whether the layer cuts n in p, where c says whether it cuts p: an absolute redirect leads on unless its directory is opaque
abbrev pub cut : Option Object → Bool → Bool
cut None c = c
cut (Some (Directory k a o (Some (Absolute q)))) c = o
cut (Some (Directory k a o (Some (Single m)))) c = o || c
cut (Some (Directory k a o None)) c = o || c
cut (Some (Named i)) c = true
cut (Some Whiteout) c = true

-- whether a path is cut, where these objects are held
abbrev pub cuts_by : (Path → Option Object) → Path → Bool
cuts_by holds [] = false
cuts_by holds (n ∷ p) = cut (holds (n ∷ p)) (cuts_by holds p)

-- whether nothing of the layers below comes through the layer at a path
abbrev pub cuts : Layer → Path → Bool
cuts L = cuts_by (held L)

-- what a path shows: a directory, by its layer and number, or an inode, by its layer and number
pub data Shown : Type 0 where
  Folder : ℕ → ℕ → Attributes → Shown
  Contents : ℕ → ℕ → Option Inode → Shown

-- what comes through a layer: nothing where it cuts
abbrev pub unless : Bool → Option Shown → Option Shown
unless true s = None
unless false s = s

-- what is shown where layer i, of these inodes, holds the first and s comes through it
abbrev pub over : ℕ → (ℕ → Option Inode) → Option Object → Option Shown → Option Shown
over i inodes None s = s
over i inodes (Some Whiteout) s = None
over i inodes (Some (Directory k a o r)) s = Some (Folder i k a)
over i inodes (Some (Named k)) s = Some (Contents i k (inodes k))

-- what the layers, numbered from i, show at a path
abbrev pub shows : ℕ → List Layer → Path → Option Shown
shows i [] p = None
shows i (L ∷ Ls) p = over i L.inodes (held L p) (unless (cuts L p) (shows (suc i) Ls (below L p)))

-- whether this is a file, and no symbolic link
abbrev pub is_file : Content → Bool
is_file (File bytes) = true
is_file (SymbolicLink target) = false

-- what the file holds that is shown, and else this content
abbrev pub file_or : Content → Option Shown → Content
file_or c (Some (Contents j k (Some i))) = elim i.content [ File bytes ↦ File bytes | SymbolicLink target ↦ c ]
file_or c _ = c

-- what an inode with this mark holds over lower layers: a marked file what the file has that they show at the mark
abbrev pub content_over : List Layer → Option Path → Content → Content
content_over lowers None c = c
content_over lowers (Some q) (File bytes) = file_or (File bytes) (shows 1 lowers q)
content_over lowers (Some q) (SymbolicLink target) = SymbolicLink target

abbrev pub fill : List Layer → Inode → Inode
fill lowers i = record i { content = content_over lowers i.mark i.content }

-- THE UPPER OVER LOWER LAYERS: its marked files have the bytes that those show at their marks, all else is as it has it
abbrev pub filled : Layer → List Layer → Layer
filled U lowers = record U { inodes = λ k. option_map (fill lowers) (U.inodes k) }

-- what comes through the upper at a path from the layers below it
abbrev pub through : Layer → List Layer → Path → Option Shown
through U lowers p = unless (cuts U p) (shows 1 lowers (below U p))

-- what the layers below show at the name n in p, whatever the upper holds there: by the spelling that it hands down for p
abbrev pub under : Layer → List Layer → Name → Path → Option Shown
under U lowers n p = unless (cuts U p) (shows 1 lowers (n ∷ below U p))

abbrev pub is_directory : Option Shown → Bool
is_directory (Some (Folder i k a)) = true
is_directory _ = false

abbrev pub holds_directory : Option Object → Bool
holds_directory (Some (Directory k a o r)) = true
holds_directory _ = false

-- whether some layer that is reached at p holds a directory there
abbrev pub reaches_directory : List Layer → Path → Bool
reaches_directory [] p = false
reaches_directory (L ∷ Ls) p = holds_directory (held L p) || (not (cuts L p) && reaches_directory Ls (below L p))

-- whether a reached lower layer holds a directory at p
abbrev pub base : Layer → List Layer → Path → Bool
base U lowers p = not (cuts U p) && reaches_directory lowers (below U p)

-- whether two names are the same
abbrev pub same_name : Name → Name → Bool
same_name = bytes_eq

-- whether two paths are the same
abbrev pub same_path : Path → Path → Bool
same_path = pointwise bytes_eq

-- the names of an inode in its layer: a list of exactly the paths that name it, each once, as long as its link count says
pub record AreLinks (L : Layer) (k count : ℕ) : Type 0 where
  pub paths : List Path
  pub once : IsDistinct same_path paths
  pub exact : (p : Path) → (list_any (same_path p) paths ≡ true) ↔ (held L p ≡ Some (Named k))
  pub counted : count ≡ length paths

-- a list has every path below the root that the layer holds
abbrev pub HasAllPaths : Layer → List Path → Type 0
HasAllPaths L paths = (p : Path) → is_some (L.objects p) ≡ true → list_any (same_path p) paths ≡ true

-- what a layer is: the parent of a held path is a directory, an absolute redirect has a name, a named inode is there,
-- an inode's link count is the number of its names, and it holds finitely many paths
pub record IsLayer (L : Layer) : Type 0 where
  pub parents : (n : Name) (p : Path) → is_some (held L (n ∷ p)) ≡ true → holds_directory (held L p) ≡ true
  pub redirects : (p : Path) (k : ℕ) (a : Attributes) (o : Bool) (q : Path) → held L p ≡ Some (Directory k a o (Some (Absolute q))) → q ≢ []
  pub present : (p : Path) (k : ℕ) → held L p ≡ Some (Named k) → is_some (L.inodes k) ≡ true
  pub links : (k : ℕ) (i : Inode) → L.inodes k ≡ Some i → AreLinks L k i.links
  pub paths : List Path
  pub finite : HasAllPaths L paths

-- each of a list is a layer
abbrev pub AreLayers : List Layer → Type 0
AreLayers [] = Unit {0}
AreLayers (L ∷ Ls) = IsLayer L × AreLayers Ls
