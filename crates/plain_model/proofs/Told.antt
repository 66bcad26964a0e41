-- What calls tell are subjects, and what subjects ask are events.
use Rattle.std.proofs.Common.{◌≡◌, ℕ, suc, ◌+◌, ◌-◌, ◌%◌, ◌^◌, ◌<◌, Bool, true, false, not, cond, ◌&&◌, List, [], ◌∷◌, ◌++◌, Option, None, Some, refl, ap, ◌∙◌, sym, ◌||◌, is_none, mod-lt, nat_eq, length, arith}
use Rattle.std.specs.List.{All}
use Rattle.std.proofs.lemmas.Bool.{false≢true}
use Rattle.std.proofs.lemmas.List.Elements.{All-nil, All-cons, All-append}
use Rattle.ov_base.specs.declared.call.CallOf.TheVariants.{Chmod, Chown, SetAttribute, DeleteAttribute, Mkdir, Symlink, Open, Unlink, Rmdir, Hardlink, Rename, Read, Write, Truncate, Close, Disarm}
use Rattle.ov_base.specs.declared.node_id.NodeId.{NodeId}
use Rattle.ov_base.specs.declared.node_id.NodeId.TheVariants.{New}
use Rattle.ov_base.specs.declared.notice.Event.{Event}
use Rattle.plain_model.specs.Layers.{Name, Path}
use Rattle.plain_model.specs.Tree.{Node, Tree, node_at, node_of, is_folder}
use Rattle.plain_model.specs.Watching.{ACCESS, MODIFY, ATTRIB, CLOSE_WRITE, CLOSE_NOWRITE, OPEN, MOVED_FROM, MOVED_TO, CREATE, DELETE, DELETE_SELF, MOVE_SELF, IGNORED, ISDIR, MOVES, OTHERS, is_one_of, On, Subject, is_last, reaches, IsSubject, IsEvent, LawOfEvents}
use Rattle.plain_model.specs.Machine.{Handle, State, look, same_found, handle_of, handle_node}
use Rattle.plain_model.specs.Changes.{way_of, node_of_handle, read_bytes, tree_after}
use Rattle.plain_model.specs.Subjects.{marked, by_way, of_node, both, gone, way_in, by_handle, closes, cookie_of, rename_subjects, LawOfSubjects}

-- the bits of another event than a rename's, with ISDIR and without
abbrev IsOther : ℕ → Type 0
IsOther bits = (is_one_of MOVES bits ≡ false) × (is_one_of OTHERS bits ≡ true)

-- the bits of one of a rename's two events
abbrev IsMove : ℕ → Type 0
IsMove bits = is_one_of MOVES bits ≡ true

-- each of some is a subject
abbrev Are : List Subject → Type 0
Are ss = All IsSubject ss

-- none, one, and one part after another
none : Are []
none = All-nil IsSubject

one : (s : Subject) → IsSubject s → Are (s ∷ [])
one s h = All-cons IsSubject s [] h none

join : (ss ts : List Subject) → Are ss → Are ts → Are (ss ++ ts)
join ss ts h k = All-append IsSubject ss ts h k

-- some subjects or others
either : (b : Bool) (ss ts : List Subject) → Are ss → Are ts → Are (cond b ss ts)
either true ss ts h k = h
either false ss ts h k = k

-- the cookie of a rename has 32 bits
cookie-fits : (k : ℕ) → cookie_of k < 2 ^ 32
cookie-fits k = let below : (k - 1) % (2 ^ 32 - 1) < 2 ^ 32 - 1 = mod-lt (k - 1) (omega arith) in omega arith

-- another event than a rename's, on a node
other-is : (d : NodeId) (bits : ℕ) (name : Option Name) → IsOther bits →
    IsSubject (record { aim = On d; bits = bits; cookie = 0; name = name })
other-is d bits name h = record {
  known = ap (λ b. b || is_one_of OTHERS bits) h.0 ∙ h.1;
  moves = (λ m. absurd (false≢true (sym h.0 ∙ m)), λ n. absurd (n refl));
  fits = omega arith;
  alone = λ f. absurd (false≢true f);
}

-- one of a rename's, with its cookie
move-is : (d : NodeId) (bits k : ℕ) (name : Option Name) → IsMove bits →
    IsSubject (record { aim = On d; bits = bits; cookie = cookie_of k; name = name })
move-is d bits k name h = record {
  known = ap (λ b. b || is_one_of OTHERS bits) h;
  moves = (λ m e. absurd (omega arith), λ n. h);
  fits = cookie-fits k;
  alone = λ f. absurd (false≢true f);
}

-- at a directory, with the name
by_way-are : (way : Option (NodeId × Name)) (bits : ℕ) → IsOther bits → Are (by_way way bits 0)
by_way-are None bits h = none
by_way-are (Some w) bits h = one _ (other-is w.0 bits (Some w.1) h)

-- the same of a rename's, with its cookie
moved-are : (way : Option (NodeId × Name)) (bits k : ℕ) → IsMove bits → Are (by_way way bits (cookie_of k))
moved-are None bits k h = none
moved-are (Some w) bits k h = one _ (move-is w.0 bits k (Some w.1) h)

-- at a node
of_node-are : (o : Option NodeId) (bits : ℕ) → IsOther bits → Are (of_node o bits)
of_node-are None bits h = none
of_node-are (Some d) bits h = one _ (other-is d bits None h)

-- at a directory, then at the node
both-are : (way : Option (NodeId × Name)) (o : Option NodeId) (bits : ℕ) → IsOther bits → Are (both way o bits)
both-are way o bits h = join _ _ (by_way-are way bits h) (of_node-are o bits h)

-- the end of a node
gone-are : (t : Tree) (o : Option NodeId) → Are (gone t o)
gone-are t None = none
gone-are t (Some d) =
    either (is_none (t d)) (of_node (Some d) DELETE_SELF ++ of_node (Some d) IGNORED) []
    (join (of_node (Some d) DELETE_SELF) (of_node (Some d) IGNORED) (of_node-are (Some d) DELETE_SELF (refl, refl))
    (of_node-are (Some d) IGNORED (refl, refl))) none

-- bits with ISDIR, or without
marked-by : (P : ℕ → Type 0) (o : Option Node) (bits : ℕ) → P bits → P (bits + ISDIR) → P (marked o bits)
marked-by P o bits plain folder = by (is_folder o)
  where
    by : (b : Bool) → P (cond b (bits + ISDIR) bits)
    by true = folder
    by false = plain

-- a change of attributes
changed-are : (t : Tree) (p : Path) → Are (both (way_of t p) (node_at t p) (marked (node_of t (node_at t p)) ATTRIB))
changed-are t p = both-are (way_of t p) (node_at t p) _ (marked-by IsOther (node_of t (node_at t p)) ATTRIB (refl, refl) (refl, refl))

-- what is told of an open handle's node
handle-are : (t : Tree) (h : Option Handle) (bits : ℕ) → IsOther bits → IsOther (bits + ISDIR) → Are (by_handle t h bits)
handle-are t h bits plain folder = both-are (way_in h) (node_of_handle h) _ (marked-by IsOther (handle_node t h) bits plain folder)

-- what a close tells of it
close-are : (t : Tree) (h : Option Handle) → Are (by_handle t h (closes h))
close-are t None = handle-are t None CLOSE_NOWRITE (refl, refl) (refl, refl)
close-are t (Some h) = by h.writes
  where
    by : (b : Bool) → Are (by_handle t (Some h) (cond b CLOSE_WRITE CLOSE_NOWRITE))
    by true = handle-are t (Some h) CLOSE_WRITE (refl, refl) (refl, refl)
    by false = handle-are t (Some h) CLOSE_NOWRITE (refl, refl) (refl, refl)

-- what a rename tells
rename-are : (s : State) (d e : Option NodeId) (old new : Option (NodeId × Name)) (t : Tree) → Are (rename_subjects s d e old new t)
rename-are s d e old new t =
    join _ (gone t e)
    (join _ (of_node d MOVE_SELF)
    (join _ (cond (is_folder (node_of s.tree e)) [] (of_node e ATTRIB))
    (join (by_way old (marked (node_of s.tree d) MOVED_FROM) (cookie_of (suc s.renames)))
    (by_way new (marked (node_of s.tree d) MOVED_TO) (cookie_of (suc s.renames)))
    (moved-are old (marked (node_of s.tree d) MOVED_FROM) (suc s.renames) (marked-by IsMove (node_of s.tree d) MOVED_FROM refl refl))
    (moved-are new (marked (node_of s.tree d) MOVED_TO) (suc s.renames) (marked-by IsMove (node_of s.tree d) MOVED_TO refl refl)))
    (either (is_folder (node_of s.tree e)) [] (of_node e ATTRIB) none (of_node-are e ATTRIB (refl, refl))))
    (of_node-are d MOVE_SELF (refl, refl)))
    (gone-are t e)

-- what an open of a file that is there tells
open-are : (s : State) (p : Path) (truncates : Bool) →
    Are (cond truncates (both (way_of s.tree p) (node_at s.tree p) MODIFY) []
    ++ both (way_of s.tree p) (node_at s.tree p) (marked (node_of s.tree (node_at s.tree p)) OPEN))
open-are s p truncates =
    join _ _ (either truncates _ [] (both-are (way_of s.tree p) (node_at s.tree p) MODIFY (refl, refl)) none)
    (both-are (way_of s.tree p) (node_at s.tree p) _ (marked-by IsOther (node_of s.tree (node_at s.tree p)) OPEN (refl, refl) (refl, refl)))

-- what each call tells
pub law_of_subjects : LawOfSubjects
law_of_subjects s c (Chmod p mode) = changed-are s.tree p
law_of_subjects s c (Chown p uid gid) = changed-are s.tree p
law_of_subjects s c (SetAttribute p n v) = changed-are s.tree p
law_of_subjects s c (DeleteAttribute p n) = changed-are s.tree p
law_of_subjects s c (Mkdir p mode) = by_way-are (way_of s.tree p) (CREATE + ISDIR) (refl, refl)
law_of_subjects s c (Symlink target p) = by_way-are (way_of s.tree p) CREATE (refl, refl)
law_of_subjects s c (Open p f mode) =
    either (is_none (node_at s.tree p)) _ _
    (join _ _ (by_way-are (way_of s.tree p) CREATE (refl, refl)) (both-are (way_of s.tree p) (Some (New s.serial)) OPEN (refl, refl)))
    (open-are s p f.truncate)
law_of_subjects s c (Unlink p) =
    join (by_way (way_of s.tree p) DELETE 0 ++ of_node (node_at s.tree p) ATTRIB) (gone (tree_after s c (Unlink p)) (node_at s.tree p))
    (join (by_way (way_of s.tree p) DELETE 0) (of_node (node_at s.tree p) ATTRIB) (by_way-are (way_of s.tree p) DELETE (refl, refl))
    (of_node-are (node_at s.tree p) ATTRIB (refl, refl)))
    (gone-are (tree_after s c (Unlink p)) (node_at s.tree p))
law_of_subjects s c (Rmdir p) =
    join _ _ (by_way-are (way_of s.tree p) (DELETE + ISDIR) (refl, refl)) (gone-are (tree_after s c (Rmdir p)) (node_at s.tree p))
law_of_subjects s c (Hardlink old new) =
    join _ _ (by_way-are (way_of s.tree new) CREATE (refl, refl)) (of_node-are (node_at s.tree old) ATTRIB (refl, refl))
law_of_subjects s c (Rename old new) = either (same_found (look s.tree old) (look s.tree new)) [] _ none (rename-are s _ _ _ _ _)
law_of_subjects s c (Read fd n) =
    either (nat_eq (length (read_bytes s.tree (handle_of s.tables c fd) n)) 0) [] _ none
    (handle-are s.tree (handle_of s.tables c fd) ACCESS (refl, refl) (refl, refl))
law_of_subjects s c (Write fd bytes) =
    either (nat_eq (length bytes) 0) [] _ none (handle-are s.tree (handle_of s.tables c fd) MODIFY (refl, refl) (refl, refl))
law_of_subjects s c (Truncate fd size) = handle-are s.tree (handle_of s.tables c fd) MODIFY (refl, refl) (refl, refl)
law_of_subjects s c (Close fd) =
    join _ _ (close-are s.tree (handle_of s.tables c fd)) (gone-are (tree_after s c (Close fd)) (node_of_handle (handle_of s.tables c fd)))
law_of_subjects s c (Disarm number) = one _ (record {
  known = refl;
  moves = (λ m. absurd (false≢true m), λ n. absurd (n refl));
  fits = omega arith;
  alone = λ f. refl;
})
law_of_subjects s c _ = none

-- an event, and IGNORED after it or not
one-or-two : (own ended : Event) (b last : Bool) → IsEvent own → IsEvent ended → All IsEvent (cond b (own ∷ cond last (ended ∷ []) []) [])
one-or-two own ended false last h k = All-nil IsEvent
one-or-two own ended true true h k = All-cons IsEvent own (ended ∷ []) h (All-cons IsEvent ended [] k (All-nil IsEvent))
one-or-two own ended true false h k = All-cons IsEvent own [] h (All-nil IsEvent)

-- what a subject asks at a watch are events
pub law_of_events : LawOfEvents
law_of_events c s w h named positive fits =
    one-or-two
    (record { watch = w.number; bits = s.bits; cookie = s.cookie; name = s.name })
    (record { watch = w.number; bits = IGNORED; cookie = 0; name = None })
    (reaches c s w) (w.once && not (is_last s))
    (record { positive = positive; fits = fits; known = h.known; moves = h.moves; named = named })
    (record { positive = positive; fits = fits; known = refl; moves = (λ m. absurd (false≢true m), λ n. absurd (n refl)); named = tt })
