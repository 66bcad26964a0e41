-- The calls that change the attributes of what a path shows: which call of a client each is, why it is refused, and what it makes of the
-- attributes (chmod(2), chown(2), setxattr(2), removexattr(2)).
use Rattle.std.specs.Prelude.{ℕ, not, ◌&&◌, List, Option, None, is_none, length, nat_lt}
use Rattle.ov_base.specs.UserValues.{value_of, set_value, drop_value}
use Rattle.ov_base.specs.declared.attributes.Attributes.{Attributes}
use Rattle.ov_base.specs.Calls.{Call}
use Rattle.ov_base.specs.declared.call.CallOf.TheVariants as call
use Rattle.ov_base.specs.declared.errno.Errno.{Errno}
use Rattle.ov_base.specs.declared.errno.Errno.TheVariants.{EFBIG, ENODATA}
use Rattle.plain_model.specs.Changes.{with_mode, with_owner}
use Rattle.plain_model.specs.Layers.{Path, Layer, shows}
use Rattle.plain_model.specs.Refusals.{when, bad_mode, bad_attribute}
use Rattle.mount_laws.specs.Attributes.{chown_fault, shown_user}
use Rattle.mount_laws.specs.Looks.{or_else}
use Rattle.mount_calls.specs.declared.attribute_changes.AttributeCall.{AttributeCall}
use Rattle.mount_calls.specs.declared.attribute_changes.AttributeCall.TheVariants as asks

-- the call that it is at a path
abbrev pub call_at : Path → AttributeCall → Call
call_at p (asks.Mode mode) = call.Chmod p mode
call_at p (asks.Owner uid gid) = call.Chown p uid gid
call_at p (asks.Set name value) = call.SetAttribute p name.now value.now
call_at p (asks.Delete name) = call.DeleteAttribute p name.now

-- what it makes of the attributes
abbrev pub asked : AttributeCall → Attributes → Attributes
asked (asks.Mode mode) a = with_mode mode a
asked (asks.Owner uid gid) a = with_owner uid gid a
asked (asks.Set name value) a = record a { user = set_value a.user name.now value.now }
asked (asks.Delete name) a = record a { user = drop_value a.user name.now }

-- why it is refused for what it asks for, whatever stands at the path
abbrev pub asking_fault : AttributeCall → Option Errno
asking_fault (asks.Mode mode) = bad_mode mode
asking_fault (asks.Owner uid gid) = None
asking_fault (asks.Set name value) = or_else (bad_attribute name.now) (when (nat_lt 1024 (length value.now)) EFBIG)
asking_fault (asks.Delete name) = bad_attribute name.now

-- why it is refused for the user attributes that there are: a new one where there are 64, and one to be deleted that there isn't
abbrev pub user_fault : AttributeCall → List (List ℕ × List ℕ) → Option Errno
user_fault (asks.Set name value) user = when (is_none (value_of user name.now) && not (nat_lt (length user) 64)) EFBIG
user_fault (asks.Delete name) user = when (is_none (value_of user name.now)) ENODATA
user_fault _ user = None

-- why it is refused at a path: for what it asks for, then as chown is, and last for the user attributes there
abbrev pub asked_fault : List Layer → Path → AttributeCall → Option Errno
asked_fault Ls p x = or_else (asking_fault x) (or_else (chown_fault Ls p) (user_fault x (shown_user (shows 0 Ls p))))
