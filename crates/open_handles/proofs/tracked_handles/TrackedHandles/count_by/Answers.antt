use Rattle.std.proofs.Common.{◌≡◌, ◌+◌, ◌<◌, ◌≤◌, ℕ, arith, ap, ◌∙◌, count_by, length, sum_by, take, get_or}
use Rattle.std.proofs.lemmas.List.Sums.{sum_by_more_le, sum_by-take-le}
use Rattle.open_handles.specs.TrackedHandles.{TrackedTable, clients_of, slot_came_by}
use Rattle.open_handles.proofs.TrackedWays.{handles_by-le}
use Rattle.open_handles.proofs.tracked_handles.TrackedHandles.count_by.Goals as goal

pub overflow_add-count : goal.overflow_add-count
overflow_add-count c =
    let share : TrackedTable → ℕ = λ k. count_by (slot_came_by c.args.object c.args.way.now) k.slots in
    let items = c.deref-client-items.result.now in
    let i = c.loop-client.client-index in
    let k = c.client-item.result in
    let within : i < length items = omega arith in
    let more : sum_by share (take i items) + share (get_or items i k) ≤ sum_by share items = sum_by_more_le share items i k within in
    let same : sum_by share items ≡ sum_by share c.self.inside.clients.items = ap (sum_by share) c.deref-client-items.ensures.value in
    let so_far : c.loop-client.count ≡ sum_by share (take i items) = c.loop-client.invariant in
    let next : c.count_by-count.result ≡ share (get_or items i k) = c.count_by-count.ensures ∙ ap share c.client-item.is in
    let most = handles_by-le c.self.inside.clients.items c.args.object c.args.way.now c.self.invariant in
    let clients = ap (λ ks. length (clients_of ks)) c.self.view_is in
    omega arith

pub returns-clause-few : goal.returns-clause-few
returns-clause-few c =
    let share : TrackedTable → ℕ = λ k. count_by (slot_came_by c.args.object c.args.way.now) k.slots in
    let items = c.deref-client-items.result.now in
    let i = c.loop-client.client-index in
    let less = sum_by-take-le share items i in
    let so_far : c.loop-client.count ≡ sum_by share (take i items) = c.loop-client.invariant in
    let same : sum_by share items ≡ sum_by share c.self.inside.clients.items = ap (sum_by share) c.deref-client-items.ensures.value in
    let most = handles_by-le c.self.inside.clients.items c.args.object c.args.way.now c.self.invariant in
    let clients = ap (λ ks. length (clients_of ks)) c.self.view_is in
    omega arith
