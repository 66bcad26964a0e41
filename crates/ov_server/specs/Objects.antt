-- The lines of objects.
use Rattle.std.specs.Prelude.{ℕ, Bool, true, false, List, [], ◌∷◌, ◌++◌, cond, length, reverse, Option, Some, None, option_map, codes}
use Rattle.std.specs.List.{flat_map}
use Rattle.ov_base.specs.declared.bytes.Content.{Content}
use Rattle.ov_base.specs.declared.bytes.Content.TheVariants as content
use Rattle.ov_base.specs.declared.redirect.Redirect.{Redirect}
use Rattle.ov_base.specs.declared.redirect.Redirect.TheVariants as redirect
use Rattle.plain_model.specs.Layers.{Path}
use Rattle.layer_tree.specs.declared.node.Marks.{Marks}
use Rattle.layer_tree.specs.declared.node.Node.{Node}
use Rattle.layer_tree.specs.declared.node.Node.TheVariants as node
use Rattle.mount_calls.specs.Status.{content_bytes, status_of}
use Rattle.ov_script.specs.Escapes.{escaped_of}
use Rattle.ov_script.specs.Lines.{stat_words}

-- the text of the path of these names from the root
abbrev pub path_text : List (List ℕ) → List ℕ
path_text [] = 47 ∷ []
path_text (n ∷ names) = flat_map (λ m. 47 ∷ escaped_of m) (n ∷ names)

abbrev pub redirect_text : Redirect → List ℕ
redirect_text (redirect.Absolute path) = path_text (reverse path)
redirect_text (redirect.Single name) = escaped_of name

abbrev pub redirect_words : Option Redirect → List ℕ
redirect_words None = []
redirect_words (Some r) = codes " redirect " ++ redirect_text r

-- the marks of a directory, each after a space
abbrev pub mark_words : Marks → List ℕ
mark_words m = cond m.opaque (codes " opaque") [] ++ redirect_words m.redirect

abbrev pub target_words : Content → List ℕ
target_words (content.File bytes) = []
target_words (content.SymbolicLink target) = codes " -> " ++ escaped_of target

-- the mark of a file without bytes of its own
abbrev pub metacopy_words : Option Path → List ℕ
metacopy_words None = []
metacopy_words (Some path) = codes " metacopy " ++ path_text (reverse path)

-- what follows the path: the target of a symbolic link, and where marks are told those of a directory or a file
abbrev pub words_after : Bool → Node → List ℕ
words_after true (node.Directory d) = mark_words d.marks
words_after false (node.Directory d) = []
words_after true (node.Inode i) = target_words i.content ++ metacopy_words (option_map (λ b. b.value) i.mark)
words_after false (node.Inode i) = target_words i.content

-- the line of an object of this size at a path, without its line break
abbrev pub object_line : Bool → Node → ℕ → List (List ℕ) → List ℕ
object_line marks n size path = stat_words (record (status_of n) { size = size }) ++ 32 ∷ path_text path ++ words_after marks n

-- how many bytes a file or the target of a symbolic link has, if there is one
abbrev pub content_size : Option Content → ℕ
content_size None = 0
content_size (Some c) = length (content_bytes c)

-- the line of a whiteout at a path, without its line break
abbrev pub whiteout_line : List (List ℕ) → List ℕ
whiteout_line path = codes "c 0000 0 0 0 1 " ++ path_text path
