-- What a word answers of a source, by what was made of its program.
use Rattle.std.proofs.Common.{◌≡◌, ℕ, List, Option, None, Some, subst}
use Rattle.snl_syntax.specs.Programs.{ProgramTree}
use Rattle.snl_messages.specs.Silence.{options_in_force}
use Rattle.snl_names.specs.declared.options.Options.{Options}
use Rattle.snc.specs.Answered.{IsAnswered}

module _ {O P : Type 0} (A : ProgramTree → Options → O → Type 0) (B : ProgramTree → Options → P → Type 0) (given : Options) (word source text : List ℕ) (made : Option O) where
  -- what is right of what was made of a program, and so of what is said of it
  pub accepted : (o : O) (p : P) → made ≡ Some o → IsAnswered A given word source text made → ((whole : ProgramTree) (options : Options) → A whole options o → B whole options p) →
      IsAnswered B given word source text (Some p)
  accepted o p some is so =
      let w = subst (IsAnswered A given word source text) some is in
      let whole : ProgramTree = w.says.1.0 in
      record {
        names = w.names;
        messages = w.messages;
        tree = w.tree;
        finds = w.finds;
        text_is = w.text_is;
        says = (w.says.0, (whole, (w.says.1.1.0, so whole (options_in_force whole given) w.says.1.1.1)));
      }

  -- nothing is said of a source with an error
  pub refused : made ≡ None → IsAnswered A given word source text made → IsAnswered B given word source text None
  refused none is =
      let w = subst (IsAnswered A given word source text) none is in
      record { names = w.names; messages = w.messages; tree = w.tree; finds = w.finds; text_is = w.text_is; says = w.says }
