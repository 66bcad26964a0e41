-- The directory of a path that a call walked to is shown.
use Rattle.std.proofs.Common.{◌≡◌, ℕ, true, not, List, [], ◌∷◌, Option, None, Some, refl, sym, ◌∙◌}
use Rattle.std.proofs.lemmas.Bool.{not-false}
use Rattle.ov_base.specs.declared.call.CallOf.TheVariants.{Unlink, Rmdir, Rename}
use Rattle.ov_base.specs.declared.errno.Errno.TheVariants.{ENOTDIR, EBUSY}
use Rattle.plain_model.specs.Layers.{Path, Layer, Shown, Folder, Contents, shows, is_directory}
use Rattle.plain_model.specs.Tree.{node_at, node_of, is_folder}
use Rattle.plain_model.specs.Machine.{State, Look, Found, Absent, Fails, look}
use Rattle.plain_model.specs.Refusals.{walked, there, refusal}
use Rattle.plain_model.proofs.Kept.{by-path}
use Rattle.plain_model.proofs.Looking.{or-first, or-second, when-not}
use Rattle.mount_laws.specs.Looks.{fault, way_fault, IsMountOf}
use Rattle.mount_laws.proofs.Links.{second-none}
use Rattle.mount_laws.proofs.Looks.{to-parents}
use Rattle.mount_laws.proofs.Opens.{folder-at}
use Rattle.notice_laws.specs.Objects.{IsShownIn}

-- what a walk goes on from is a directory
goes-on : (o : Option Shown) → fault o ≡ None → is_directory o ≡ true
goes-on None h = cc
goes-on (Some (Folder i k a)) h = refl
goes-on (Some (Contents i k inode)) h = cc

-- where a walk comes to, a directory is shown
way-shown : (U : Layer) (lowers : List Layer) (p : Path) → way_fault (U ∷ lowers) p ≡ None → is_directory (shows 0 (U ∷ lowers) p) ≡ true
way-shown U lowers [] h = refl
way-shown U lowers (n ∷ p) h =
    goes-on (shows 0 (U ∷ lowers) (n ∷ p)) (second-none (way_fault (U ∷ lowers) p) (fault (shows 0 (U ∷ lowers) (n ∷ p))) h)

module _ (U : Layer) (lowers : List Layer) (s : State) (m : IsMountOf U lowers s) where
  -- so the directory of a path is, whose parents are walked
  pub walked-shown : (p : Path) → walked (look s.tree p) ≡ None → IsShownIn U lowers p
  walked-shown [] w = tt
  walked-shown (n ∷ p) w = way-shown U lowers p (sym (to-parents U lowers s m (n ∷ p)) ∙ w)

  -- a walk that finds something passes its parents
  there-walked : (l : Look) → there l ≡ None → walked l ≡ None
  there-walked (Fails e) h = h
  there-walked (Absent d) h = refl
  there-walked (Found d) h = refl

  -- so the directory of what is found is shown
  pub there-shown : (p : Path) → there (look s.tree p) ≡ None → IsShownIn U lowers p
  there-shown p h = walked-shown p (there-walked (look s.tree p) h)

  -- by an unlink
  pub unlink-shown : (c : ℕ) (p : Path) → refusal s c (Unlink p) ≡ None → IsShownIn U lowers p
  unlink-shown c [] r = tt
  unlink-shown c (n ∷ p) r = there-shown (n ∷ p) (or-first (there (look s.tree (n ∷ p))) _ (by-path s c (Unlink (n ∷ p)) r))

  -- by an rmdir
  pub rmdir-shown : (c : ℕ) (p : Path) → refusal s c (Rmdir p) ≡ None → IsShownIn U lowers p
  rmdir-shown c [] r = tt
  rmdir-shown c (n ∷ p) r = there-shown (n ∷ p) (or-first (there (look s.tree (n ∷ p))) _ (by-path s c (Rmdir (n ∷ p)) r))

  -- which goes from a directory
  pub rmdir-directory : (c : ℕ) (p : Path) → refusal s c (Rmdir p) ≡ None → is_directory (shows 0 (U ∷ lowers) p) ≡ true
  rmdir-directory c [] r = refl
  rmdir-directory c (n ∷ p) r =
      let rest = or-second (there (look s.tree (n ∷ p))) _ (by-path s c (Rmdir (n ∷ p)) r) in
      let file = when-not (not (is_folder (node_of s.tree (node_at s.tree (n ∷ p))))) ENOTDIR (or-first _ _ rest) in
      sym (folder-at U lowers s m (n ∷ p)) ∙ not-false (is_folder (node_of s.tree (node_at s.tree (n ∷ p)))) file

  -- by a rename, of both its paths
  pub old-shown : (c : ℕ) (p q : Path) → refusal s c (Rename p q) ≡ None → IsShownIn U lowers p
  old-shown c [] q r = tt
  old-shown c (n ∷ p) [] r = let z : Some EBUSY ≡ None = by-path s c (Rename (n ∷ p) []) r in cc
  old-shown c (n ∷ p) (m ∷ q) r = there-shown (n ∷ p) (or-first (there (look s.tree (n ∷ p))) _ (by-path s c (Rename (n ∷ p) (m ∷ q)) r))

  pub new-shown : (c : ℕ) (p q : Path) → refusal s c (Rename p q) ≡ None → IsShownIn U lowers q
  new-shown c p [] r = tt
  new-shown c [] (m ∷ q) r = let z : Some EBUSY ≡ None = by-path s c (Rename [] (m ∷ q)) r in cc
  new-shown c (n ∷ p) (m ∷ q) r =
      walked-shown (m ∷ q)
      (or-first (walked (look s.tree (m ∷ q))) _
      (or-second (there (look s.tree (n ∷ p))) _ (by-path s c (Rename (n ∷ p) (m ∷ q)) r)))
