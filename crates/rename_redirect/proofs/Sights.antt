-- The faults of a link, one after the other.
use Rattle.std.proofs.Common.{◌≡◌, ◌≢◌, true, false, List, [], Option, None, Some, is_some, refl, sym, ap, ◌∙◌}
use Rattle.std.proofs.lemmas.Bool.{false≢true}
use Rattle.ov_base.specs.declared.errno.Errno.{Errno}
use Rattle.ov_base.specs.declared.errno.Errno.TheVariants as errno
use Rattle.plain_model.specs.Layers.{Path, Layer, shows, is_directory}
use Rattle.plain_model.specs.Machine.{is_root}
use Rattle.plain_model.specs.Refusals.{when}
use Rattle.mount_laws.specs.Linking.{link_fault}
use Rattle.mount_laws.specs.Looks.{or_else, parents_fault, walk_fault}
use Rattle.make_remove.specs.Making.{vacancy_fault}

-- the faults of a link, one after the other
module _ (Ls : List Layer) (p q : Path) where
  abbrev after : Option Errno → Option Errno → Option Errno
  after walk vacancy = or_else walk (or_else vacancy (when (is_directory (shows 0 Ls p)) errno.EPERM))

  or-rest : (a b c : Option Errno) → or_else a (or_else b c) ≡ or_else (or_else a b) c
  or-rest None b c = refl
  or-rest (Some e) b c = refl

  told : link_fault Ls p q ≡ after (walk_fault Ls p) (vacancy_fault Ls q)
  told = ap (or_else (walk_fault Ls p)) (or-rest (parents_fault Ls q) (when (is_some (shows 0 Ls q)) errno.EEXIST) (when (is_directory (shows 0 Ls p)) errno.EPERM))

  pub link-walk : (e : Errno) → walk_fault Ls p ≡ Some e → link_fault Ls p q ≡ Some e
  link-walk e h = told ∙ ap (λ x. after x (vacancy_fault Ls q)) h

  pub link-vacancy : (e : Errno) → walk_fault Ls p ≡ None → vacancy_fault Ls q ≡ Some e → link_fault Ls p q ≡ Some e
  link-vacancy e h v = told ∙ (λ i. after (h i) (v i))

  pub vacant-fine : parents_fault Ls q ≡ None → shows 0 Ls q ≡ None → vacancy_fault Ls q ≡ None
  vacant-fine way none = λ i. or_else (way i) (when (is_some (none i)) errno.EEXIST)

  pub link-directory : walk_fault Ls p ≡ None → parents_fault Ls q ≡ None → shows 0 Ls q ≡ None → is_directory (shows 0 Ls p) ≡ true → link_fault Ls p q ≡ Some errno.EPERM
  link-directory h way none dir = told ∙ (λ i. or_else (h i) (or_else (vacant-fine way none i) (when (dir i) errno.EPERM)))

-- one that is no root is below it
pub below-root : (p : Path) → is_root p ≡ false → p ≢ []
below-root p h e = false≢true (sym h ∙ ap is_root e)
