use Rattle.mount_calls.proofs.Carrying.{state-stays}
use Rattle.mount_calls.proofs.Lasting.{parents-live}
use Rattle.mount_calls.proofs.Placing.{can-here, place-keeps}
use Rattle.mount_calls.proofs.mount.Mount.place.Goals as goal

pub returns-clause-stays : goal.returns-clause-stays
returns-clause-stays c = λ s st.
    let m = c.args.self.now in
    let new = c.place_dir.new.layers in
    let gains = c.place_dir.ensures.gains in
    state-stays m s st new gains.lowers (c.place_dir.ensures.stays.mounts s st.layers) (parents-live m.layers new c.in-Some.path.now gains)

pub returns-clause-layers : goal.returns-clause-layers
returns-clause-layers c =
    let m = c.args.self.now in
    let k = c.args.call.now in
    let path = rw c.in-Some.is at c.path_of_call.ensures in
    let can = can-here m k c.args.second c.args.count c.in-Some.path.now path c.requires.can in
    place-keeps m.layers c.place_dir.new.layers m.metacopy k c.args.second c.args.count c.in-Some.path.now c.requires.lacks can.0 can.1 c.place_dir.ensures.gains

pub returns-clause-live : goal.returns-clause-live
returns-clause-live c = parents-live c.args.self.now.layers c.place_dir.new.layers c.in-Some.path.now c.place_dir.ensures.gains
