use Rattle.snl_channels.specs.Links.{spelled}
use Rattle.snl_channels.specs.Tables.{elements_words, said_words, monitor_word, flag_word}
use Rattle.snl_channels.proofs.AppendLaws.{first_begun, on_err}
use Rattle.snl_channels.proofs.listing.put_channel.Goals as goal

pub returns-in_err-put_elements-clause-begun : goal.returns-in_err-put_elements-clause-begun
returns-in_err-put_elements-clause-begun c =
    let t = c.args.tie.now in
    on_err c.from_residual.result
    (first_begun c.args.out.now.items c.put_elements.new.out.items (elements_words t.variable.name.now t.first t.count)
    (said_words (spelled t.channel) (monitor_word t.monitored) (flag_word t.flag) t.queue)
    c.in_err-put_elements.ensures.begun)
