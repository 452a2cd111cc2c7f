use Rattle.std.proofs.Common.{ℕ, arith, ap, ◌∙◌, Bor, List, map, cond, Bool, not, ◌++◌, ◌∷◌, []}
use Rattle.std.specs.Prelude.{bytes_eq}
use Rattle.std.specs.List.{list_any}
use Rattle.snl_text.proofs.Names.{any_name, place_of_name, named}
use Rattle.std.proofs.lemmas.List.Sums.{prefix_len-le-length}
use Rattle.snl_text.proofs.scanner.note_name.Goals as goal

pub overflow_cast-result : goal.overflow_cast-result
overflow_cast-result c =
    let names = map (λ (y : Bor (List ℕ)). y.now) c.args.files.now.keys in
    omega (arith, c.in_ok-index.ensures.index, place_of_name c.args.files.now.keys c.args.name.now, prefix_len-le-length (λ name. not (bytes_eq c.args.name.now name)) names)

pub overflow_add-result : goal.overflow_add-result
overflow_add-result c =
    let names = map (λ (y : Bor (List ℕ)). y.now) c.args.files.now.keys in
    omega (arith, c.in_ok-index.ensures.index, place_of_name c.args.files.now.keys c.args.name.now, prefix_len-le-length (λ name. not (bytes_eq c.args.name.now name)) names)

pub returns-clause-number : goal.returns-clause-number
returns-clause-number c =
    omega (arith, c.in_ok-index.ensures.index, place_of_name c.args.files.now.keys c.args.name.now)

pub returns-clause-names : goal.returns-clause-names
returns-clause-names c =
    let keys = c.args.files.now.keys in
    let name = c.args.name in
    let names = map (λ (y : Bor (List ℕ)). y.now) keys in
    ap (map (λ (y : Bor (List ℕ)). y.now)) c.in_ok-index.ensures.keys
    ∙ named (list_any (λ (y : Bor (List ℕ)). bytes_eq name.now y.now) keys) keys name
    ∙ ap (λ (b : Bool). cond b names (names ++ name.now ∷ [])) (any_name keys name.now)
