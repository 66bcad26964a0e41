-- What is shown at a path: that nothing is not there, and what a directory is.
use Rattle.std.proofs.Common.{◌≡◌, true, false, Option, None, Some, is_none, is_some, refl}
use Rattle.std.proofs.lemmas.Bool.{false≢true}
use Rattle.plain_model.specs.Layers.{Contents, Folder, Shown, is_directory}
use Rattle.mount_laws.specs.Looks.{shows_link}

-- what is none is not there
pub none-some : (x : Option Shown) → is_none x ≡ true → is_some x ≡ false
none-some None h = refl
none-some (Some x) h = absurd (false≢true h)

-- what is a directory is there
pub directory-some : (x : Option Shown) → is_directory x ≡ true → is_some x ≡ true
directory-some None h = absurd (false≢true h)
directory-some (Some x) h = refl

-- and isn't a link
pub directory-no-link : (x : Option Shown) → is_directory x ≡ true → shows_link x ≡ false
directory-no-link None h = refl
directory-no-link (Some (Folder i k a)) h = refl
directory-no-link (Some (Contents i k inode)) h = absurd (false≢true h)
