use Rattle.std.proofs.Common.{rules, ap, sym, subst, refl, codes, ◌∙◌, ◌≡◌, IfErr, map, true, false, List, Bor, Option, Some, None, option_map, is_some}
use Rattle.std.specs.Option.{option_map_or}
use Rattle.std.specs.Str.{bytes_eq}
use Rattle.std.specs.String.{string_bytes}
use Rattle.clap.specs.Words.{App, Row, Text, app_of, fault_of, first_of, found_of, matches_of, one_text, rows_of}
use Rattle.clap.proofs.WalkLemmas.{first_value-rows, one_text-rows}
use Rattle.snc_args.specs.Commands.{snc_app}
use Rattle.snc_args.specs.Reads.{FailsBy, ReadsSnc, flag_of}
use Rattle.snc_args.proofs.Programs.{flag_read, snc_file, snc_tables}
use Rattle.snc_args.proofs.reading.read_snc.Goals as goal

pub returns-in_err-matches-clause-err : goal.returns-in_err-matches-clause-err
returns-in_err-matches-clause-err c =
    let app_is : app_of c.in_ok-command.command ≡ snc_app = c.in_ok-command.ensures in
    let ws = map (λ s. s.now) c.args.words.now in
    let fails : IfErr c.from_residual-in_err-matches.result (FailsBy (fault_of (app_of c.in_ok-command.command) ws)) = search rules in
    subst (λ (a : App). IfErr c.from_residual-in_err-matches.result (FailsBy (fault_of a ws))) app_is fails

pub unreachable-requires : goal.unreachable-requires
unreachable-requires c =
    let app_is : app_of c.in_ok-command.command ≡ snc_app = c.in_ok-command.ensures in
    let has = snc_file c.in_ok-command.command c.in_ok-matches.matches app_is c.in_ok-matches.ensures.parsed in
    let bad : false ≡ true = sym (ap (λ (o : Option (Bor Text)). is_some (option_map (λ s. s.now) o)) c.in_default.is) ∙ (ap is_some c.get_str.ensures ∙ has) in
    cc

pub returns-clause-faultless : goal.returns-clause-faultless
returns-clause-faultless c =
    let app_is : app_of c.in_ok-command.command ≡ snc_app = c.in_ok-command.ensures in
    let ws = map (λ s. s.now) c.args.words.now in
    ap (λ (a : App). fault_of a ws) (sym app_is) ∙ c.in_ok-matches.ensures.faultless

pub returns-clause-rows : goal.returns-clause-rows
returns-clause-rows c =
    let app_is : app_of c.in_ok-command.command ≡ snc_app = c.in_ok-command.ensures in
    let ws = map (λ s. s.now) c.args.words.now in
    let m = c.in_ok-matches.matches in
    let f = found_of m in
    let rows_are : rows_of f ≡ matches_of snc_app ws = c.in_ok-matches.ensures.rows ∙ ap (λ (a : App). matches_of a ws) app_is in
    let told : option_map (λ s. s.now) c.get_str.result ≡ Some (string_bytes c.in_ok-from_str.field-0) =
    ap (option_map (λ s. s.now)) c.in-Some.is ∙ ap Some (sym c.in_ok-from_str.ensures.ok) in
    let file_is : first_of (codes "FILE") (rows_of f) ≡ Some (string_bytes c.in_ok-from_str.field-0) =
    sym (first_value-rows f (codes "FILE")) ∙ (sym c.get_str.ensures ∙ told) in
    let flag = c.get_flag-tables.ensures in
    let read = flag_read (one_text f (codes "tables")) c.get_flag-tables.result flag.none flag.value flag.other
    (snc_tables c.in_ok-command.command m app_is c.in_ok-matches.ensures.parsed) in
    let tables_are : c.get_flag-tables.result ≡ flag_of (codes "tables") (rows_of f) =
    read ∙ ap (λ (o : Option Text). option_map_or (bytes_eq (codes "true")) o false) (one_text-rows f (codes "tables")) in
    subst (λ (r : List Row). ReadsSnc r (record {
      file = c.in_ok-from_str.field-0;
      options = c.args.options;
      tables = c.get_flag-tables.result;
      budget = 100000;
      macros = None;
    })) rows_are (record {
      file = file_is;
      tables = tables_are;
      budget = refl;
      macros = refl;
    })
