use Rattle.std.proofs.Common.{rules, ap, sym, subst, refl, codes, arith, ◌∙◌, ◌≡◌, IfErr, map, true, false, List, Bor, Option, Some, None, option_map, is_some}
use Rattle.std.specs.Str.Parse.{ExplainsUnsignedError, HasUnsignedDigitsIfOk, ParsesUnsigned}
use Rattle.std.specs.String.{string_bytes}
use Rattle.clap.specs.Words.{App, Row, Text, app_of, fault_of, first_of, found_of, matches_of, rows_of, without_minus}
use Rattle.clap.proofs.CallerReads.{signed_reads}
use Rattle.clap.proofs.WalkLemmas.{first_value-rows, one_text-rows}
use Rattle.snc_args.specs.Commands.{snlrun_app}
use Rattle.snc_args.specs.Reads.{FailsBy, ReadsSnlrun}
use Rattle.snc_args.proofs.Programs.{snlrun_budget, snlrun_file}
use Rattle.snc_args.proofs.reading.read_snlrun.Goals as goal

pub returns-in_err-matches-clause-err : goal.returns-in_err-matches-clause-err
returns-in_err-matches-clause-err c =
    let app_is : app_of c.in_ok-command.command ≡ snlrun_app = c.in_ok-command.ensures in
    let ws = map (λ s. s.now) c.args.words.now in
    let fails : IfErr c.from_residual-in_err-matches.result (FailsBy (fault_of (app_of c.in_ok-command.command) ws)) = search rules in
    subst (λ (a : App). IfErr c.from_residual-in_err-matches.result (FailsBy (fault_of a ws))) app_is fails

pub unreachable-requires : goal.unreachable-requires
unreachable-requires c =
    let app_is : app_of c.in_ok-command.command ≡ snlrun_app = c.in_ok-command.ensures in
    let has = snlrun_file c.in_ok-command.command c.in_ok-matches.matches app_is c.in_ok-matches.ensures.parsed in
    let bad : false ≡ true = sym (ap (λ (o : Option (Bor Text)). is_some (option_map (λ s. s.now) o)) c.in_default.is) ∙ (ap is_some c.get_str.ensures ∙ has) in
    cc

pub unreachable-requires-in_default-get_one : goal.unreachable-requires-in_default-get_one
unreachable-requires-in_default-get_one c =
    let app_is : app_of c.in_ok-command.command ≡ snlrun_app = c.in_ok-command.ensures in
    let known = snlrun_budget c.in_ok-command.command c.in_ok-matches.matches app_is c.in_ok-matches.ensures.parsed in
    let one = c.get_one.ensures.value (without_minus known.0) known.1 in
    let got = signed_reads _ (λ bs r. ParsesUnsigned 32 10 bs r × ExplainsUnsignedError 10 bs r × HasUnsignedDigitsIfOk bs r)
    32 1 1000000000 known.0 c.get_one.result one (λ u x g. g.0) (omega arith) known.2 in
    let bad : None ≡ Some got.0 = sym c.in_default-get_one.is ∙ got.1 in
    cc

pub returns-clause-faultless : goal.returns-clause-faultless
returns-clause-faultless c =
    let app_is : app_of c.in_ok-command.command ≡ snlrun_app = c.in_ok-command.ensures in
    let ws = map (λ s. s.now) c.args.words.now in
    ap (λ (a : App). fault_of a ws) (sym app_is) ∙ c.in_ok-matches.ensures.faultless

pub returns-clause-rows : goal.returns-clause-rows
returns-clause-rows c =
    let app_is : app_of c.in_ok-command.command ≡ snlrun_app = c.in_ok-command.ensures in
    let ws = map (λ s. s.now) c.args.words.now in
    let m = c.in_ok-matches.matches in
    let f = found_of m in
    let rows_are : rows_of f ≡ matches_of snlrun_app ws = c.in_ok-matches.ensures.rows ∙ ap (λ (a : App). matches_of a ws) app_is in
    let told : option_map (λ s. s.now) c.get_str.result ≡ Some (string_bytes c.in_ok-from_str.field-0) =
    ap (option_map (λ s. s.now)) c.in-Some.is ∙ ap Some (sym c.in_ok-from_str.ensures.ok) in
    let file_is : first_of (codes "FILE") (rows_of f) ≡ Some (string_bytes c.in_ok-from_str.field-0) =
    sym (first_value-rows f (codes "FILE")) ∙ (sym c.get_str.ensures ∙ told) in
    let copied : option_map string_bytes c.in_ok-macros.macros ≡ option_map (λ s. s.now) c.get_str-2.result = c.in_ok-macros.ensures in
    let macros_are : first_of (codes "MACROS") (rows_of f) ≡ option_map string_bytes c.in_ok-macros.macros =
    sym (first_value-rows f (codes "MACROS")) ∙ (sym c.get_str-2.ensures ∙ sym copied) in
    let known = snlrun_budget c.in_ok-command.command m app_is c.in_ok-matches.ensures.parsed in
    let one = c.get_one.ensures.value (without_minus known.0) known.1 in
    let got = signed_reads _ (λ bs r. ParsesUnsigned 32 10 bs r × ExplainsUnsignedError 10 bs r × HasUnsignedDigitsIfOk bs r)
    32 1 1000000000 known.0 c.get_one.result one (λ u x g. g.0) (omega arith) known.2 in
    let same : Some c.in-Some-get_one.budget ≡ Some got.0 = sym c.in-Some-get_one.is ∙ got.1 in
    let number : c.in-Some-get_one.budget ≡ got.0 = cc in
    let read = c.in-Some-get_one.ensures.value (without_minus known.0) known.1 in
    subst (λ (r : List Row). ReadsSnlrun r (record {
      file = c.in_ok-from_str.field-0;
      options = c.args.options;
      tables = false;
      budget = c.in-Some-get_one.budget;
      macros = c.in_ok-macros.macros;
    })) rows_are (record {
      file = file_is;
      tables = refl;
      digits = without_minus known.0;
      are_digits = sym (one_text-rows f (codes "budget")) ∙ known.1;
      budget = read.0.1;
      in_range = (rw number got.2, rw number got.3);
      macros = macros_are;
    })
