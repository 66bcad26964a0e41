-- Look-ups of small layers, as the definitions compute them.
use Rattle.std.proofs.Common.{◌≡◌, ℕ, Bool, true, false, cond, List, [], ◌∷◌, Option, None, Some, refl}
use Rattle.ov_base.specs.declared.attributes.Attributes.{Attributes}
use Rattle.ov_base.specs.declared.bytes.Content.TheVariants.{File}
use Rattle.ov_base.specs.declared.redirect.Redirect.{Redirect}
use Rattle.ov_base.specs.declared.redirect.Redirect.TheVariants.{Absolute, Single}
use Rattle.plain_model.specs.Layers.{Name, Path, Object, Directory, Named, Whiteout, Inode, Layer, Folder, Contents, shows, under, base, below, is_directory, same_path}

abbrev plain : Attributes
plain = record { mode = 0o755; uid = 0; gid = 0; user = [] }

-- layers in which each inode of a number is a file with this number as its only byte
abbrev file : ℕ → Inode
file k = record { content = File (k ∷ []); attributes = plain; links = 1; mark = None }

abbrev object_at : List (Path × Object) → Path → Option Object
object_at [] p = None
object_at (e ∷ es) p = cond (same_path e.0 p) (Some e.1) (object_at es p)

abbrev layer_of : List (Path × Object) → Layer
layer_of es = record { root = plain; objects = object_at es; inodes = λ k. Some (file k) }

-- a directory without marks, one that is opaque, and one with a redirect
abbrev dir : ℕ → Object
dir k = Directory k plain false None

abbrev opaque_dir : ℕ → Object
opaque_dir k = Directory k plain true None

abbrev redirected : ℕ → Redirect → Object
redirected k r = Directory k plain false (Some r)

abbrev empty : Layer
empty = layer_of []

abbrev a : Name
a = 97 ∷ []

abbrev b : Name
b = 98 ∷ []

abbrev c : Name
c = 99 ∷ []

abbrev d : Name
d = 100 ∷ []

abbrev f : Name
f = 102 ∷ []

abbrev k : Name
k = 107 ∷ []

abbrev m : Name
m = 109 ∷ []

abbrev q : Name
q = 113 ∷ []

abbrev t : Name
t = 116 ∷ []

abbrev x : Name
x = 120 ∷ []

abbrev y : Name
y = 121 ∷ []

abbrev z : Name
z = 122 ∷ []

abbrev old : Name
old = 111 ∷ 108 ∷ 100 ∷ []

-- /a with /a/x below, removed and made again: the new directory is opaque, for the lower layer shows one there
abbrev removed : List Layer
removed = layer_of ((a ∷ [], dir 1) ∷ (x ∷ a ∷ [], Named 1) ∷ []) ∷ []

abbrev made_again : Layer
made_again = layer_of ((a ∷ [], opaque_dir 1) ∷ [])

made_again-mark : is_directory (under (layer_of ((a ∷ [], Whiteout) ∷ [])) removed a []) ≡ true
made_again-mark = refl

made_again-x : shows 0 (made_again ∷ removed) (x ∷ a ∷ []) ≡ None
made_again-x = refl

made_again-base : base made_again removed (a ∷ []) ≡ false
made_again-base = refl

-- a whiteout in the second lower layer hides the third's file; a file in the first shows
hidden : shows 0 (empty ∷ empty ∷ layer_of ((f ∷ [], Whiteout) ∷ []) ∷ layer_of ((f ∷ [], Named 7) ∷ []) ∷ []) (f ∷ []) ≡ None
hidden = refl

above_whiteout : shows 0 (empty ∷ layer_of ((f ∷ [], Named 3) ∷ []) ∷ layer_of ((f ∷ [], Whiteout) ∷ []) ∷ layer_of ((f ∷ [], Named 7) ∷ []) ∷ []) (f ∷ []) ≡ Some (Contents 1 3 (Some (file 3)))
above_whiteout = refl

-- an opaque directory in the middle
abbrev middle : List Layer
middle = empty ∷ layer_of ((d ∷ [], dir 1) ∷ (t ∷ d ∷ [], Named 1) ∷ []) ∷ layer_of ((d ∷ [], opaque_dir 1) ∷ (m ∷ d ∷ [], Named 2) ∷ []) ∷ layer_of ((d ∷ [], dir 1) ∷ (b ∷ d ∷ [], Named 3) ∷ []) ∷ []

middle-t : shows 0 middle (t ∷ d ∷ []) ≡ Some (Contents 1 1 (Some (file 1)))
middle-t = refl

middle-m : shows 0 middle (m ∷ d ∷ []) ≡ Some (Contents 2 2 (Some (file 2)))
middle-m = refl

middle-b : shows 0 middle (b ∷ d ∷ []) ≡ None
middle-b = refl

-- two renames of base directories: /a to /b, then /b/c to /d, whose redirect is its spelling in the lower layer
abbrev renamed_twice : List Layer
renamed_twice =
    layer_of ((a ∷ [], Whiteout) ∷ (b ∷ [], redirected 1 (Absolute (a ∷ []))) ∷ (c ∷ b ∷ [], Whiteout) ∷ (d ∷ [], redirected 2 (Absolute (c ∷ a ∷ []))) ∷ [])
    ∷ layer_of ((a ∷ [], dir 1) ∷ (c ∷ a ∷ [], dir 2) ∷ (z ∷ c ∷ a ∷ [], Named 1) ∷ (x ∷ a ∷ [], Named 2) ∷ []) ∷ []

renamed_twice-a : shows 0 renamed_twice (a ∷ []) ≡ None
renamed_twice-a = refl

renamed_twice-x : shows 0 renamed_twice (x ∷ b ∷ []) ≡ Some (Contents 1 2 (Some (file 2)))
renamed_twice-x = refl

renamed_twice-c : shows 0 renamed_twice (c ∷ b ∷ []) ≡ None
renamed_twice-c = refl

renamed_twice-z : shows 0 renamed_twice (z ∷ d ∷ []) ≡ Some (Contents 1 1 (Some (file 1)))
renamed_twice-z = refl

-- the spelling that a second rename writes: that of /b/c before it
renamed_twice-below : below (layer_of ((a ∷ [], Whiteout) ∷ (b ∷ [], redirected 1 (Absolute (a ∷ []))) ∷ [])) (c ∷ b ∷ []) ≡ c ∷ a ∷ []
renamed_twice-below = refl

-- an absolute redirect in an opaque directory leads down
abbrev under_opaque : List Layer
under_opaque =
    layer_of ((a ∷ [], opaque_dir 1) ∷ (m ∷ a ∷ [], redirected 2 (Absolute (m ∷ []))) ∷ (m ∷ [], Whiteout) ∷ [])
    ∷ layer_of ((a ∷ [], dir 1) ∷ (old ∷ a ∷ [], Named 1) ∷ (m ∷ [], dir 2) ∷ (k ∷ m ∷ [], Named 2) ∷ []) ∷ []

under_opaque-k : shows 0 under_opaque (k ∷ m ∷ a ∷ []) ≡ Some (Contents 1 2 (Some (file 2)))
under_opaque-k = refl

under_opaque-old : shows 0 under_opaque (old ∷ a ∷ []) ≡ None
under_opaque-old = refl

under_opaque-m : shows 0 under_opaque (m ∷ []) ≡ None
under_opaque-m = refl

-- a redirect of one name: /b goes on as /a, which is not shown itself; it is base
abbrev renamed_by_name : List Layer
renamed_by_name = layer_of ((b ∷ [], redirected 1 (Single a)) ∷ (a ∷ [], Whiteout) ∷ []) ∷ layer_of ((a ∷ [], dir 1) ∷ (x ∷ a ∷ [], Named 1) ∷ []) ∷ []

renamed_by_name-x : shows 0 renamed_by_name (x ∷ b ∷ []) ≡ Some (Contents 1 1 (Some (file 1)))
renamed_by_name-x = refl

renamed_by_name-a : shows 0 renamed_by_name (a ∷ []) ≡ None
renamed_by_name-a = refl

renamed_by_name-base : base (layer_of ((b ∷ [], redirected 1 (Single a)) ∷ (a ∷ [], Whiteout) ∷ [])) (layer_of ((a ∷ [], dir 1) ∷ (x ∷ a ∷ [], Named 1) ∷ []) ∷ []) (b ∷ []) ≡ true
renamed_by_name-base = refl

-- marks in lower layers: in an opaque directory, an absolute redirect leads on, unless its directory is opaque too
abbrev lowest : Layer
lowest = layer_of ((m ∷ [], dir 1) ∷ (k ∷ m ∷ [], Named 1) ∷ (a ∷ [], dir 2) ∷ (m ∷ a ∷ [], dir 3) ∷ (z ∷ m ∷ a ∷ [], Named 2) ∷ (y ∷ a ∷ [], Named 3) ∷ [])

abbrev lower_marks : Bool → List Layer
lower_marks opaque = empty ∷ layer_of ((a ∷ [], opaque_dir 1) ∷ (m ∷ a ∷ [], Directory 2 plain opaque (Some (Absolute (m ∷ [])))) ∷ []) ∷ lowest ∷ []

lower_marks-m : shows 0 (lower_marks false) (m ∷ a ∷ []) ≡ Some (Folder 1 2 plain)
lower_marks-m = refl

lower_marks-y : shows 0 (lower_marks false) (y ∷ a ∷ []) ≡ None
lower_marks-y = refl

lower_marks-k : shows 0 (lower_marks false) (k ∷ m ∷ a ∷ []) ≡ Some (Contents 2 1 (Some (file 1)))
lower_marks-k = refl

lower_marks-z : shows 0 (lower_marks false) (z ∷ m ∷ a ∷ []) ≡ None
lower_marks-z = refl

lower_marks-opaque_k : shows 0 (lower_marks true) (k ∷ m ∷ a ∷ []) ≡ None
lower_marks-opaque_k = refl

lower_marks-opaque_z : shows 0 (lower_marks true) (z ∷ m ∷ a ∷ []) ≡ None
lower_marks-opaque_z = refl

-- a redirect of one name in a directory with an absolute one: it goes by the spelling of its parent
abbrev nested_redirects : List Layer
nested_redirects = empty ∷ layer_of ((x ∷ [], redirected 1 (Absolute (y ∷ []))) ∷ (b ∷ x ∷ [], redirected 2 (Single a)) ∷ []) ∷ layer_of ((y ∷ [], dir 1) ∷ (a ∷ y ∷ [], dir 2) ∷ (q ∷ a ∷ y ∷ [], Named 1) ∷ []) ∷ []

nested_redirects-a : shows 0 nested_redirects (a ∷ x ∷ []) ≡ Some (Folder 2 2 plain)
nested_redirects-a = refl

nested_redirects-b : shows 0 nested_redirects (b ∷ x ∷ []) ≡ Some (Folder 1 2 plain)
nested_redirects-b = refl

nested_redirects-q : shows 0 nested_redirects (q ∷ b ∷ x ∷ []) ≡ Some (Contents 2 1 (Some (file 1)))
nested_redirects-q = refl
