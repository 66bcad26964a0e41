use Rattle.overlay_core.proofs.Leaving.{followed, goes-shut}
use Rattle.overlay_core.proofs.watched.Watched.close.Goals as goal

pub shut-requires-clause-state : goal.shut-requires-clause-state
shut-requires-clause-state g c = followed c.args.self.now.mount c.args.self.now.notifier c.requires.state

pub returns : goal.returns
returns g c =
    let said = c.shut.ensures in
    record {
      goes = goes-shut g.R.Rule.shows c.args.self.now.mount c.shut.new.self.mount c.args.self.now.notifier c.shut.new.self.notifier c.args.client
          c.args.descriptor c.shut.result c.requires.there said.shuts;
      refused = said.refused;
      marks = λ is. tt;
      no_memory = tt;
      kept = record { clients = said.clients; layers = record { paths = said.paths; texts = said.texts }; lowers = said.paths.lowers; thin = said.thin };
    }
