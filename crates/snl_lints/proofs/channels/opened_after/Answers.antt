use Rattle.snl_lints.proofs.ChannelLaws.{other_kept}
use Rattle.snl_lints.proofs.channels.opened_after.Goals as goal

pub returns-else-name-at-eq125-clause-kept : goal.returns-else-name-at-eq125-clause-kept
returns-else-name-at-eq125-clause-kept c =
    other_kept c.args.name.now c.in-Some.from c.args.at c.args.opened c.in-Some.is c.requires.behind c.requires.inside c.if-name-at-eq125.false
