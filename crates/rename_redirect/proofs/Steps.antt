-- rename is the machine's: what it refuses, and its step.
use Rattle.std.proofs.Common.{◌≡◌, ℕ, Bool, false, ◌∷◌, List, Option, None, Some, is_some, refl, sym, ap, ◌∙◌, subst}
use Rattle.std.proofs.lemmas.Bool.{false≢true}
use Rattle.ov_base.specs.declared.call.CallOf.TheVariants.{Rename}
use Rattle.ov_base.specs.declared.errno.Errno.{Errno}
use Rattle.plain_model.specs.Layers.{Path, Layer, Shown, shows}
use Rattle.plain_model.specs.Machine.{State, has_names}
use Rattle.plain_model.specs.Refusals.{refusal}
use Rattle.plain_model.specs.Tree.{node_at, node_of}
use Rattle.mount_laws.specs.Looks.{IsMountOf}
use Rattle.mount_laws.specs.Moving.{MovesTo}
use Rattle.mount_laws.specs.Removals.{ShowsNoName}
use Rattle.mount_laws.specs.Renaming.{is_one, rename_fault, Renames}
use Rattle.mount_laws.proofs.Refusing.{some-names, name-at}
use Rattle.mount_laws.proofs.Renamed.{law_of_renamed}
use Rattle.mount_laws.proofs.Renaming.{told}
use Rattle.layer_tree.specs.Tree.{layer_of}
use Rattle.merged_lookup.specs.declared.layers.Layers.{Layers}
use Rattle.merged_lookup.specs.Merged.{upper_of, layers_of, lowers_of}
use Rattle.copy_up.proofs.Keeping.{lowers-same}
use Rattle.rename_redirect.specs.declared.renames.Renamed.{Renamed}
use Rattle.rename_redirect.specs.declared.renames.Renamed.TheVariants as renamed
use Rattle.rename_redirect.specs.Judging.{IsFaultOf}
use Rattle.rename_redirect.specs.Renaming.{MovesOver, DoesRename, RenameSteps}

-- what rename did is that what is shown moved
pub renamed-over : (a b : Layers) (marked : Bool) (p q : Path) (r : Renamed) → DoesRename a b marked p q r → MovesOver a b marked p q
renamed-over a b marked p q (renamed.Directory released) d = d.over
renamed-over a b marked p q (renamed.Inode key released) d = d.0.over

-- and that is the machine's step
pub rename-steps : (a b : Layers) (redirects marked : Bool) (p q : Path) → rename_fault (upper_of a) (lowers_of a) redirects p q false ≡ None → ShowsNoName (layers_of a) q → is_one (layer_of a.upper) p q ≡ false → MovesOver a b marked p q → RenameSteps a b redirects marked p q
rename-steps a b redirects marked p q fine empty apart over s m option off c =
    subst (λ (Ls : List Layer). Renames (upper_of b) Ls s c p q) (sym (lowers-same a b over.lowers))
    (law_of_renamed (upper_of a) (upper_of b) (lowers_of a) s m c p q empty (ap (λ x. rename_fault (upper_of a) (lowers_of a) x p q false) option ∙ fine) apart (subst (λ (z : Bool). MovesTo (upper_of a) (upper_of b) (lowers_of a) z p q) (sym off) (over.moves m.layers)))

-- a node without names shows none
no-name : (l : Layers) (s : State) → (m : IsMountOf (upper_of l) (lowers_of l) s) (q : Path) → has_names (node_of s.tree (node_at s.tree q)) ≡ false → ShowsNoName (layers_of l) q
no-name l s m q h n = by (shows 0 (layers_of l) (n ∷ q)) refl
  where
    by : (x : Option Shown) → shows 0 (layers_of l) (n ∷ q) ≡ x → shows 0 (layers_of l) (n ∷ q) ≡ None
    by None e = e
    by (Some x) e = absurd (false≢true (sym h ∙ some-names (node_of s.tree (node_at s.tree q)) n (name-at (upper_of l) (lowers_of l) s m q n ∙ ap is_some e)))

-- what rename refuses, the machine does
pub rename-refused : (l : Layers) (redirects : Bool) (p q : Path) (e : Errno) → IsFaultOf l q (rename_fault (upper_of l) (lowers_of l) redirects p q) e → (s : State) → IsMountOf (upper_of l) (lowers_of l) s → s.options.redirects ≡ redirects → (c : ℕ) → refusal s c (Rename p q) ≡ Some e
rename-refused l redirects p q e refused s m option c =
    let names = has_names (node_of s.tree (node_at s.tree q)) in
    told (upper_of l) (lowers_of l) s m c p q names refl
    ∙ ap (λ x. rename_fault (upper_of l) (lowers_of l) x p q names) option
    ∙ refused names (no-name l s m q)
