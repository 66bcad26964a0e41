-- What it means that a client's slot is armed on what stands at a path, by the number under which
-- that is held, and when it is refused, by
-- the number that it has before.
use Rattle.std.specs.Prelude.{◌≡◌, ℕ, Option, Some}
use Rattle.ov_base.specs.declared.errno.Errno.{Errno}
use Rattle.ov_base.specs.declared.node_id.NodeId.TheVariants.{New}
use Rattle.plain_model.specs.Layers.{Path}
use Rattle.plain_model.specs.Machine.{instance_of, watches_of, armed_of, watch_on}
use Rattle.plain_model.specs.Replies.{number_of, next_number}
use Rattle.object_table.specs.Objects.{Objects, spot_of}
use Rattle.watch_table.specs.Listening.{number_refusal}
use Rattle.notice_laws.specs.declared.object.Object.{Object}
use Rattle.notice_laws.specs.Clients.{Armed}
use Rattle.notice_laws.specs.Notified.{Notified}
use Rattle.notice_laws.specs.Objects.{IsNumberOf}
use Rattle.notifier.specs.Opening.{HoldsObject}

-- the refusal of an arm through a client's slot of the object of a number, or of one that isn't
-- tracked
abbrev pub refusal_of : Notified → ℕ → ℕ → Option ℕ → Option Errno
refusal_of k c slot number =
    number_refusal (watches_of (instance_of k.instances c)) (armed_of (instance_of k.instances c)) slot number

-- the number of the watch that an arm of the object of a number gives
abbrev pub watch_of : Notified → ℕ → ℕ → ℕ
watch_of k c number = number_of (watch_on (watches_of (instance_of k.instances c)) (Some (New number))) (next_number (instance_of k.instances c))

-- A client's slot is armed on what stands at p, which is held for it first, and n is the watch's number.
pub record ArmsAt (old new : Notified) (c slot mask : ℕ) (p : Path) (o : Object) (n : ℕ) : Type 0 where
  pub held : Objects
  pub arms : Armed (record old { objects = held }) new c slot mask p o
  pub holds : HoldsObject old.objects held p o arms.number
  pub given : n ≡ watch_of old c arms.number

-- AN ARM WAS JUDGED of what stands at p through a client's slot: this is its refusal, by the number under which that is tracked, if it is.
pub record IsArmJudged (k : Notified) (c slot : ℕ) (p : Path) (o : Object) (refusal : Option Errno)
    : Type 0 where
  pub number : Option ℕ
  pub found : IsNumberOf k.objects p o number
  pub judged : refusal ≡ refusal_of k c slot number

-- each object is where it was
pub record IsLeft (old new : Notified) : Type 0 where
  pub spots : (n : ℕ) → spot_of new.objects n ≡ spot_of old.objects n
  pub rest : new ≡ record old { objects = new.objects }
