-- The refusals and answers of chmod, chown and the calls on user attributes are told by the layers.
use Rattle.std.proofs.Common.{◌≡◌, ℕ, Bool, not, ◌&&◌, List, [], ◌∷◌, Option, None, Some, refl, ap, ◌∙◌, is_none, nat_lt, length, map}
use Rattle.std.specs.Option.{unwrap_or}
use Rattle.ov_base.specs.declared.call.CallOf.TheVariants.{Chmod, Chown, SetAttribute, GetAttribute, DeleteAttribute, ListAttributes}
use Rattle.ov_base.specs.declared.errno.Errno.{Errno}
use Rattle.ov_base.specs.declared.errno.Errno.TheVariants.{ELOOP, EFBIG, ENODATA}
use Rattle.ov_base.specs.declared.reply.Reply.TheVariants as reply
use Rattle.plain_model.specs.Layers.{Path, Layer, Shown, Folder, Contents, shows}
use Rattle.plain_model.specs.Tree.{Node, Branch, Leaf, node_at, node_of, face, Sight, SeenBranch, SeenLeaf, see}
use Rattle.plain_model.specs.Machine.{State, look, is_link, user_of, value_of}
use Rattle.plain_model.specs.Refusals.{when, there, bad_mode, bad_attribute}
use Rattle.plain_model.proofs.Looking.{refusal-writable, refusal-reading}
use Rattle.mount_laws.specs.Looks.{or_else as first, IsMountOf}
use Rattle.mount_laws.specs.Attributes.{shown_user, chown_fault, LawOfChmod, LawOfChown, LawOfSetAttribute, LawOfDeleteAttribute, LawOfGetAttribute, LawOfListAttributes}
use Rattle.mount_laws.proofs.Looks.{chain-two, chain-three, chain-four, chain-five, to-last}
use Rattle.mount_laws.proofs.Opens.{link-at}

-- the user attributes, by what is seen
abbrev pub seen_user : Option Sight → List (List ℕ × List ℕ)
seen_user None = []
seen_user (Some (SeenBranch a b)) = a.user
seen_user (Some (SeenLeaf content a u l)) = a.user

face-user : (o : Option Node) → user_of o ≡ seen_user (face o)
face-user None = refl
face-user (Some (Branch a b names c)) = refl
face-user (Some (Leaf content a u l)) = refl

see-user : (b : Bool) (s : Option Shown) → seen_user (see b s) ≡ shown_user s
see-user b None = refl
see-user b (Some (Folder i k a)) = refl
see-user b (Some (Contents i k None)) = refl
see-user b (Some (Contents i k (Some inode))) = refl

-- the first of two faults, and then a third
joined : (a b c : Option Errno) → first a (first b c) ≡ first (first a b) c
joined None b c = refl
joined (Some e) b c = refl

module _ (U : Layer) (lowers : List Layer) (s : State) (m : IsMountOf U lowers s) (p : Path) where
  abbrev shown : Option Shown
  shown = shows 0 (U ∷ lowers) p

  -- a path's node has the user attributes that are shown
  pub user-at : user_of (node_of s.tree (node_at s.tree p)) ≡ shown_user shown
  user-at = face-user (node_of s.tree (node_at s.tree p)) ∙ ap seen_user (m.shows.sights p) ∙ see-user _ shown

  -- the walk of the path and a symbolic link there are refused as chown is
  no-chown : first (there (look s.tree p)) (when (is_link (node_of s.tree (node_at s.tree p))) ELOOP) ≡ chown_fault (U ∷ lowers) p
  no-chown = λ i. first (to-last U lowers s m p i) (when (link-at U lowers s m p i) ELOOP)

  -- and what comes after them is told by the user attributes
  no-chown-then : (f : List (List ℕ × List ℕ) → Option Errno) → first (there (look s.tree p)) (first (when (is_link (node_of s.tree (node_at s.tree p))) ELOOP) (f (user_of (node_of s.tree (node_at s.tree p))))) ≡ first (chown_fault (U ∷ lowers) p) (f (shown_user shown))
  no-chown-then f =
      joined (there (look s.tree p)) (when (is_link (node_of s.tree (node_at s.tree p))) ELOOP) (f (user_of (node_of s.tree (node_at s.tree p))))
      ∙ (λ i. first (no-chown i) (f (user-at i)))

-- chmod's refusals are told by the layers
pub law_of_chmod : LawOfChmod
law_of_chmod U lowers s m c p mode =
    refusal-writable s c (Chmod p mode) m.writable
    ∙ chain-three (bad_mode mode) (there (look s.tree p)) (when (is_link (node_of s.tree (node_at s.tree p))) ELOOP)
    ∙ ap (first (bad_mode mode)) (no-chown U lowers s m p)

-- chown's refusals are told by the layers
pub law_of_chown : LawOfChown
law_of_chown U lowers s m c p uid gid =
    refusal-writable s c (Chown p uid gid) m.writable
    ∙ chain-two (there (look s.tree p)) (when (is_link (node_of s.tree (node_at s.tree p))) ELOOP)
    ∙ no-chown U lowers s m p

-- the last refusal of a set, and of a get and a delete
abbrev full : List ℕ → List (List ℕ × List ℕ) → Option Errno
full n user = when (is_none (value_of user n) && not (nat_lt (length user) 64)) EFBIG

abbrev absent : List ℕ → List (List ℕ × List ℕ) → Option Errno
absent n user = when (is_none (value_of user n)) ENODATA

-- the refusals of a set are told by the layers
pub law_of_set_attribute : LawOfSetAttribute
law_of_set_attribute U lowers s m c p n v =
    refusal-writable s c (SetAttribute p n v) m.writable
    ∙ chain-five (bad_attribute n) (when (nat_lt 1024 (length v)) EFBIG) (there (look s.tree p)) (when (is_link (node_of s.tree (node_at s.tree p))) ELOOP) (full n (user_of (node_of s.tree (node_at s.tree p))))
    ∙ ap (λ e. first (bad_attribute n) (first (when (nat_lt 1024 (length v)) EFBIG) e)) (no-chown-then U lowers s m p (full n))

-- the refusals of a delete are told by the layers
pub law_of_delete_attribute : LawOfDeleteAttribute
law_of_delete_attribute U lowers s m c p n =
    refusal-writable s c (DeleteAttribute p n) m.writable
    ∙ chain-four (bad_attribute n) (there (look s.tree p)) (when (is_link (node_of s.tree (node_at s.tree p))) ELOOP) (absent n (user_of (node_of s.tree (node_at s.tree p))))
    ∙ ap (first (bad_attribute n)) (no-chown-then U lowers s m p (absent n))

-- a get is told by the layers
pub law_of_get_attribute : LawOfGetAttribute
law_of_get_attribute U lowers s m c p n = record {
  refused =
      refusal-reading s c (GetAttribute p n) refl
      ∙ chain-four (bad_attribute n) (there (look s.tree p)) (when (is_link (node_of s.tree (node_at s.tree p))) ELOOP) (absent n (user_of (node_of s.tree (node_at s.tree p))))
      ∙ ap (first (bad_attribute n)) (no-chown-then U lowers s m p (absent n));
  answer = λ value h. ap (λ o. reply.Value (unwrap_or o [])) (ap (λ user. value_of user n) (user-at U lowers s m p) ∙ h);
}

-- a list is told by the layers
pub law_of_list_attributes : LawOfListAttributes
law_of_list_attributes U lowers s m c p = record {
  refused =
      refusal-reading s c (ListAttributes p) refl
      ∙ chain-two (there (look s.tree p)) (when (is_link (node_of s.tree (node_at s.tree p))) ELOOP)
      ∙ no-chown U lowers s m p;
  answer = ap (λ user. reply.AttributeNames (map (λ x. x.0) user)) (user-at U lowers s m p);
}
