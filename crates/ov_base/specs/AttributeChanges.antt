-- What a change of an object's attributes makes of them (chmod(2), chown(2), setxattr(2), removexattr(2)).
use Rattle.std.specs.Prelude.{IsSome}
use Rattle.ov_base.specs.declared.attribute_change.AttributeChange.{AttributeChange}
use Rattle.ov_base.specs.declared.attribute_change.AttributeChange.TheVariants as change
use Rattle.ov_base.specs.declared.attributes.Attributes.{Attributes}
use Rattle.ov_base.specs.UserValues.{value_of, set_value, drop_value}

-- the attributes after the change
abbrev pub changed : AttributeChange → Attributes → Attributes
changed (change.Mode mode) a = record a { mode = mode }
changed (change.Owner uid gid) a = record a { uid = uid; gid = gid }
changed (change.Set name value) a = record a { user = set_value a.user name value }
changed (change.Delete name) a = record a { user = drop_value a.user name }

-- the change sets no user attribute that is new, and so takes no memory
abbrev pub TakesNoMemory : AttributeChange → Attributes → Type 0
TakesNoMemory (change.Set name value) a = IsSome (value_of a.user name)
TakesNoMemory x a = Unit {0}
