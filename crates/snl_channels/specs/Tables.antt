-- The text of a program's tables, line by line. Each line ends in its newline.
use Rattle.std.specs.Prelude.{ℕ, suc, Bool, List, [], ◌∷◌, ◌++◌, codes, Option, None, Some, if◌then◌else◌}
use Rattle.std.specs.List.{flat_map}
use Rattle.std.specs.Fmt.{decimal}
use Rattle.snl_syntax.specs.Programs.{TargetTree, to_state, to_exit, ClauseTree, StateTree, StateSetTree, ProgramTree}
use Rattle.snl_names.specs.Options.{sign_in_force}
use Rattle.snl_channels.specs.declared.ties.Named.{Named}
use Rattle.snl_channels.specs.declared.ties.Tie.{Tie}
use Rattle.snl_channels.specs.Links.{spelled, ties}

-- Texts, one after the other.
abbrev pub joined : List (List ℕ) → List ℕ
joined [] = []
joined (piece ∷ more) = piece ++ joined more

abbrev pub newline : List ℕ
newline = codes "\n"

abbrev pub space : List ℕ
space = codes " "

-- `program PROG` or `ss SS`
abbrev pub name_line : List ℕ → List ℕ → List ℕ
name_line word name = joined (word ∷ name ∷ newline ∷ [])

-- The name of an event flag, or `-`.
abbrev pub flag_word : Option Named → List ℕ
flag_word None = codes "-"
flag_word (Some f) = f.name.now

abbrev pub monitor_word : Bool → List ℕ
monitor_word monitored = if monitored then codes "monitor" else codes "-"

-- `channel VAR FIRST COUNT`
abbrev pub elements_words : List ℕ → ℕ → ℕ → List ℕ
elements_words name first count = joined (codes "channel " ∷ name ∷ space ∷ decimal first ∷ space ∷ decimal count ∷ [])

-- ` "NAME" MON FLAG QUEUE`
abbrev pub said_words : List ℕ → List ℕ → List ℕ → ℕ → List ℕ
said_words channel monitor flag queue = joined (codes " \"" ∷ channel ∷ codes "\" " ∷ monitor ∷ space ∷ flag ∷ space ∷ decimal queue ∷ newline ∷ [])

-- The two in one line, with the channel's name as spelled.
abbrev pub channel_line : Tie → List ℕ
channel_line t = elements_words t.variable.name.now t.first t.count ++ said_words (spelled t.channel) (monitor_word t.monitored) (flag_word t.flag) t.queue

-- ---- the options of a state

abbrev pub sign_word : Bool → List ℕ
sign_word on = if on then codes "+" else codes "-"

-- `state STATE OPTIONS`
abbrev pub options_line : List ℕ → List ℕ → List ℕ → List ℕ → List ℕ
options_line name t e x = joined (codes "state " ∷ name ∷ space ∷ t ∷ codes "t" ∷ e ∷ codes "e" ∷ x ∷ codes "x\n" ∷ [])

-- The options are the signs of `t` (116), `e` (101) and `x` (120).
abbrev pub state_line : StateTree → List ℕ
state_line s =
    options_line s.name.text.now (sign_word (sign_in_force 116 s.definitions)) (sign_word (sign_in_force 101 s.definitions)) (sign_word (sign_in_force 120 s.definitions))

-- ---- clauses, states, state sets

-- `when K state TARGET` or `when K exit`
abbrev pub when_line : ℕ → TargetTree → List ℕ
when_line k (to_state x) = joined (codes "when " ∷ decimal k ∷ codes " state " ∷ x.text.now ∷ newline ∷ [])
when_line k to_exit = joined (codes "when " ∷ decimal k ∷ codes " exit\n" ∷ [])

-- Clauses after the first k.
abbrev pub clause_lines : ℕ → List ClauseTree → List ℕ
clause_lines k [] = []
clause_lines k (c ∷ more) = when_line (suc k) c.target ++ clause_lines (suc k) more

abbrev pub state_lines : StateTree → List ℕ
state_lines s = state_line s ++ clause_lines 0 s.clauses

-- A state set, and its states.
abbrev pub set_lines : StateSetTree → List ℕ
set_lines g = name_line (codes "ss ") g.name.text.now ++ flat_map state_lines g.states

-- The program, its links, its state sets.
abbrev pub tables : ProgramTree → List ℕ
tables p = name_line (codes "program ") p.name.text.now ++ (flat_map channel_line (ties p) ++ flat_map set_lines p.state_sets)
