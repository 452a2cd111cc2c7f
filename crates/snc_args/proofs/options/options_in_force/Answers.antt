use Rattle.std.proofs.Common.{◌∙◌, map, ap}
use Rattle.std.specs.String.{string_bytes}
use Rattle.snl_names.specs.Options.{no_options}
use Rattle.snl_names.proofs.SignLaws.{after_all, after_all-last}
use Rattle.snc_args.specs.Options.{options_among, sign_given}
use Rattle.snc_args.proofs.options.options_in_force.Goals as goal

pub loop-word-init : goal.loop-word-init
loop-word-init c =
    let os = options_among (map string_bytes c.args.words.now) in
    ap (λ o. after_all sign_given o os) c.none-options.ensures ∙ after_all-last sign_given no_options os
