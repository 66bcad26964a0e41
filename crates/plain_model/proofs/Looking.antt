-- What the walk of a path finds, and what a call that is not refused found.
use Rattle.std.proofs.Common.{◌≡◌, ℕ, Bool, true, false, ◌&&◌, [], ◌∷◌, Option, None, Some, refl, sym, ap, subst, ◌∙◌}
use Rattle.std.specs.FinMap as fin
use Rattle.ov_base.specs.declared.bytes.Content.TheVariants.{File, SymbolicLink}
use Rattle.ov_base.specs.declared.errno.Errno.{Errno}
use Rattle.ov_base.specs.declared.node_id.NodeId.{NodeId}
use Rattle.plain_model.specs.Layers.{Name, Path}
use Rattle.plain_model.specs.Tree.{Node, Branch, Leaf, Tree, root, names_of, entry, node_at, is_folder}
use Rattle.ov_base.specs.Calls.{Call}
use Rattle.ov_base.specs.declared.errno.Errno.TheVariants.{EROFS}
use Rattle.plain_model.specs.Machine.{State, Look, Found, Absent, Fails, within, enter, into, look}
use Rattle.plain_model.specs.Refusals.{◌or_else◌, when, walked, writes, writable_refusal, refusal}

-- of two refusals there is none
pub or-first : (a b : Option Errno) → a or_else b ≡ None → a ≡ None
or-first None b h = refl
or-first (Some e) b h = cc

pub or-second : (a b : Option Errno) → a or_else b ≡ None → b ≡ None
or-second None b h = h
or-second (Some e) b h = cc

pub when-not : (b : Bool) (e : Errno) → when b e ≡ None → b ≡ false
when-not true e h = cc
when-not false e h = refl

-- a refusal that nothing follows
pub or-none : (a : Option Errno) → (a or_else None) ≡ a
or-none None = refl
or-none (Some e) = refl

neither : (b : Bool) → b && false ≡ false
neither true = refl
neither false = refl

-- where all may be written, and of a call that writes nothing, the refusal is the same
pub refusal-writable : (s : State) (c : ℕ) (call : Call) → s.options.read_only ≡ false → refusal s c call ≡ writable_refusal s c call
refusal-writable s c call h = ap (λ b. writable_refusal s c call or_else when b EROFS) (ap (λ b. writes s call && b) h ∙ neither (writes s call)) ∙ or-none (writable_refusal s c call)

pub refusal-reading : (s : State) (c : ℕ) (call : Call) → writes s call ≡ false → refusal s c call ≡ writable_refusal s c call
refusal-reading s c call h = ap (λ b. writable_refusal s c call or_else when (b && s.options.read_only) EROFS) h ∙ or-none (writable_refusal s c call)

-- a name in a directory that a path leads to, and what it leads to
pub record Reached (t : Tree) (n : Name) (q : Path) (e : Option NodeId) : Type 0 where
  pub dir : NodeId
  pub at : node_at t q ≡ Some dir
  pub folder : is_folder (t dir) ≡ true
  pub leads : names_of (t dir) n ≡ e

-- what a walk tells of a node
abbrev pub Tells : Look → Option NodeId → Type 0
Tells (Found d) e = e ≡ Some d
Tells (Absent d) e = e ≡ None
Tells (Fails x) e = Unit {0}

module _ (t : Tree) where
  enter-reached : (n : Name) (q : Path) (d : NodeId) → node_at t q ≡ Some d → (o : Option Node) → t d ≡ o → (x : Look) → enter d o n ≡ x → (walked x ≡ None) → (e : Option NodeId) × Reached t n q e × Tells x e
  enter-reached n q d at None h x i w = let z : Fails _ ≡ x = i in cc
  enter-reached n q d at (Some (Leaf (File bytes) a u l)) h x i w = let z : Fails _ ≡ x = i in cc
  enter-reached n q d at (Some (Leaf (SymbolicLink target) a u l)) h x i w = let z : Fails _ ≡ x = i in cc
  enter-reached n q d at (Some (Branch a b names c)) h x i w = by (fin.get names n) refl i
    where
      by : (g : Option NodeId) → fin.get names n ≡ g → within d g ≡ x → (e : Option NodeId) × Reached t n q e × Tells x e
      by None g i = (None, record { dir = d; at = at; folder = ap is_folder h; leads = ap (λ o. names_of o n) h ∙ g }, subst (λ x. Tells x None) i refl)
      by (Some e) g i = (Some e, record { dir = d; at = at; folder = ap is_folder h; leads = ap (λ o. names_of o n) h ∙ g }, subst (λ x. Tells x (Some e)) i refl)

  reached-from : (n : Name) (q : Path) → ((d : NodeId) → look t q ≡ Found d → node_at t q ≡ Some d) → walked (look t (n ∷ q)) ≡ None → (e : Option NodeId) × Reached t n q e × Tells (look t (n ∷ q)) e
  reached-from n q parent w = by (look t q) refl w
    where
      by : (l : Look) → look t q ≡ l → walked (into t n l) ≡ None → (e : Option NodeId) × Reached t n q e × Tells (into t n (look t q)) e
      by (Fails x) h w = let z : Some x ≡ None = w in cc
      by (Absent d) h w = let z : Some _ ≡ None = w in cc
      by (Found d) h w = subst (λ l. (e : Option NodeId) × Reached t n q e × Tells (into t n l) e) (sym h) (enter-reached n q d (parent d h) (t d) refl (enter d (t d) n) refl w)

  -- a walk is the node at a path
  pub look-found : (p : Path) (d : NodeId) → look t p ≡ Found d → node_at t p ≡ Some d
  look-found [] d h = let z : root ≡ d = cc in ap Some z
  look-found (n ∷ q) d h =
      let r = reached-from n q (look-found q) (ap walked h) in
      ap (λ o. entry t o n) r.1.at ∙ r.1.leads ∙ subst (λ l. Tells l r.0) h r.2

  -- a name that is walked to stands in a directory
  pub look-reached : (n : Name) (q : Path) → walked (look t (n ∷ q)) ≡ None → (e : Option NodeId) × Reached t n q e × Tells (look t (n ∷ q)) e
  look-reached n q = reached-from n q (look-found q)
