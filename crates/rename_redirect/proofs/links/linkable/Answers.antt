use Rattle.std.proofs.Common.{ap}
use Rattle.plain_model.specs.Layers.{is_directory}
use Rattle.merged_lookup.specs.Merged.{layers_of}
use Rattle.rename_redirect.proofs.Given.{link-fine}
use Rattle.make_remove.proofs.Sights.{top-directory, top-inode, walk-way}
use Rattle.rename_redirect.proofs.Sights.{link-directory, link-vacancy, link-walk}
use Rattle.rename_redirect.proofs.links.linkable.Goals as goal

pub returns-in-Err-clause-refused : goal.returns-in-Err-clause-refused
returns-in-Err-clause-refused c = λ l p q h g. link-walk (layers_of l) p q c.in-Err.errno (c.in-Err.ensures.refused l p h)

pub returns-in-Err-vacant-clause-refused : goal.returns-in-Err-vacant-clause-refused
returns-in-Err-vacant-clause-refused c = λ l p q h g. link-vacancy (layers_of l) p q c.in-Err-vacant.errno (c.in-Ok.ensures.fine l p h) (c.in-Err-vacant.ensures.cases l q g)

pub returns-in-Inode-clause-may : goal.returns-in-Inode-clause-may
returns-in-Inode-clause-may c = λ l p q h g.
    let walk = c.in-Ok.ensures.fine l p h in
    let way = c.in-Ok-vacant.ensures.parents l q g in
    let none = c.in-Ok-vacant.ensures.absent l q g in
    let shown = top-inode l p c.in-Ok.shown.1 c.in-Inode.place c.in-Inode.is (c.in-Ok.ensures.top l p h) in
    record {
      fine = link-fine (layers_of l) p q walk way none (ap is_directory shown.shown);
      way = walk-way l p walk;
      directory = c.in-Ok.ensures.directory l p h;
      shown = shown;
      parents = way;
      onto = c.in-Ok-vacant.ensures.parent l q g;
      absent = none;
    }

pub returns-in-Directory-clause-refused : goal.returns-in-Directory-clause-refused
returns-in-Directory-clause-refused c = λ l p q h g.
    link-directory (layers_of l) p q (c.in-Ok.ensures.fine l p h) (c.in-Ok-vacant.ensures.parents l q g) (c.in-Ok-vacant.ensures.absent l q g)
    (top-directory l p c.in-Ok.shown.1 c.in-Directory.field-0 c.in-Directory.is (c.in-Ok.ensures.top l p h))
