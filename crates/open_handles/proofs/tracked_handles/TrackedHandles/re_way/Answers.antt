use Rattle.std.proofs.Common.{◌≡◌, ◌+◌, ◌<◌, ◌≤◌, ◌∙◌, ap, sym, subst, length, set, arith, cond, nat_eq}
use Rattle.std.proofs.lemmas.List.Edits.{map_over_more}
use Rattle.open_handles.specs.TrackedHandles.{TrackedTable, AreTracked, clients_of, handles_by, tracked_by, uses}
use Rattle.open_handles.proofs.TrackedWays.{re_table, map-over-all, tracked-re_way, clients-re_way, lawful-re_way, uses-re_way}
use Rattle.open_handles.proofs.tracked_handles.TrackedHandles.re_way.Goals as goal

pub loop-client-preserved : goal.loop-client-preserved
loop-client-preserved c =
    let clients = c.args.self.now in
    let now = c.loop-client.client-items in
    let i = c.loop-client.client-index in
    let began : c.deref_mut-client-items.result.now ≡ clients = c.deref_mut-client-items.ensures.value ∙ c.self.view_is in
    let within : i < length clients = omega (arith, ap length began) in
    ap (λ (k : TrackedTable). set now i k) (c.re_way.ensures ∙ sym (ap (re_table c.args.object c.args.from.now c.args.to) c.client-item.is))
    ∙ map_over_more (re_table c.args.object c.args.from.now c.args.to) clients now i c.client-item.result within c.loop-client.invariant c.client-item.is

pub invariant_of-self : goal.invariant_of-self
invariant_of-self c =
    let ks = c.args.self.now in
    let began : c.deref_mut-client-items.result.now ≡ ks = c.deref_mut-client-items.ensures.value ∙ c.self.view_is in
    let past : length ks ≤ c.loop-client.client-index = omega (arith, ap length began) in
    let all = map-over-all (re_table c.args.object c.args.from.now c.args.to) ks c.loop-client.client-items c.self.inside.clients.items c.loop-client.client-index c.self.inside.clients.len c.self.view_is c.self.inside.clients.ok.0 past c.loop-client.invariant in
    subst AreTracked (sym all) (lawful-re_way c.args.object c.args.from.now c.args.to ks (subst AreTracked c.self.view_is c.self.invariant))

pub returns-clause-handles : goal.returns-clause-handles
returns-clause-handles c b d =
    let ks = c.args.self.now in
    let began : c.deref_mut-client-items.result.now ≡ ks = c.deref_mut-client-items.ensures.value ∙ c.self.view_is in
    let past : length ks ≤ c.loop-client.client-index = omega (arith, ap length began) in
    let all = map-over-all (re_table c.args.object c.args.from.now c.args.to) ks c.loop-client.client-items c.self.inside.clients.items c.loop-client.client-index c.self.inside.clients.len c.self.view_is c.self.inside.clients.ok.0 past c.loop-client.invariant in
    ap (λ xs. tracked_by xs b d) all ∙ tracked-re_way c.args.object c.args.from.now c.args.to ks b d

pub returns-clause-clients : goal.returns-clause-clients
returns-clause-clients c =
    let ks = c.args.self.now in
    let began : c.deref_mut-client-items.result.now ≡ ks = c.deref_mut-client-items.ensures.value ∙ c.self.view_is in
    let past : length ks ≤ c.loop-client.client-index = omega (arith, ap length began) in
    let all = map-over-all (re_table c.args.object c.args.from.now c.args.to) ks c.loop-client.client-items c.self.inside.clients.items c.loop-client.client-index c.self.inside.clients.len c.self.view_is c.self.inside.clients.ok.0 past c.loop-client.invariant in
    ap clients_of all ∙ clients-re_way c.args.object c.args.from.now c.args.to ks

pub returns-clause-uses : goal.returns-clause-uses
returns-clause-uses c n =
    let ks = c.args.self.now in
    let began : c.deref_mut-client-items.result.now ≡ ks = c.deref_mut-client-items.ensures.value ∙ c.self.view_is in
    let past : length ks ≤ c.loop-client.client-index = omega (arith, ap length began) in
    let all = map-over-all (re_table c.args.object c.args.from.now c.args.to) ks c.loop-client.client-items c.self.inside.clients.items c.loop-client.client-index c.self.inside.clients.len c.self.view_is c.self.inside.clients.ok.0 past c.loop-client.invariant in
    ap (λ xs. uses xs n + cond (nat_eq c.args.from.now.directory n) (handles_by ks c.args.object c.args.from.now) 0) all
    ∙ uses-re_way c.args.object c.args.from.now c.args.to n ks
