-- The code of a target, cut where the right side of its assignment stands.
use Rattle.std.specs.Prelude.{ℕ, List, [], ◌∷◌, ◌++◌, pos, Bool, Option, None, Some}
use Rattle.snl_text.specs.declared.kinds.Kind.{Kind}
use Rattle.snl_syntax.specs.Expressions.{ExprTree, parenthesized, named, element}
use Rattle.snl_meaning.specs.declared.instrs.Instr.{Instr}
use Rattle.snl_meaning.specs.declared.instrs.Instr.TheVariants.{Push, Load, Check, Peek, Store, StoreAt, Adjust, AdjustAt, Apply, Drop, Put, PutAt, Ask, AskLink, AskElement}
use Rattle.snl_names.specs.declared.builtins.Query.{Query}
use Rattle.snl_meaning.specs.Names.{Here, sense_of, flag_number}
use Rattle.snl_meaning.specs.declared.names.Sense.{Sense}
use Rattle.snl_meaning.specs.declared.names.Sense.TheVariants.{Varies, Stands}
use Rattle.snl_emit.specs.ExpressionCode.{expression_code}

-- The read of a variable's old value, if there is an operator to join it with.
abbrev pub old_code : Sense → Option Kind → List Instr
old_code (Varies v) (Some op) = Load v ∷ []
old_code _ _ = []

-- The check of a subscript, and the read of the element's old value.
abbrev pub checked_code : Sense → ℕ → Option Kind → List Instr
checked_code (Varies v) line None = Check v line ∷ []
checked_code (Varies v) line (Some op) = Check v line ∷ Peek v ∷ []
checked_code (Stands z) line op = Drop ∷ []

-- What is done at a target before the right side.
abbrev pub place_code : Here → Option Kind → ExprTree → List Instr
place_code h op (parenthesized e) = place_code h op e
place_code h op (named x) = old_code (sense_of h x) op
place_code h op (element x b e) = expression_code h e ++ checked_code (sense_of h x) b.pos.line op
place_code h op _ = []

-- The operator that joins the old value and the right side, and then the store.
abbrev pub joined_code : Option Kind → ℕ → Instr → List Instr
joined_code None op_line store = store ∷ []
joined_code (Some op) op_line store = Apply op op_line ∷ store ∷ []

-- The store to a variable, after the right side.
abbrev pub stored_alone : Sense → Option Kind → ℕ → ℕ → List Instr
stored_alone (Varies v) op op_line line = joined_code op op_line (Store v line)
stored_alone (Stands z) op op_line line = []

-- The store to an element.
abbrev pub stored_at : Sense → Option Kind → ℕ → ℕ → List Instr
stored_at (Varies v) op op_line line = joined_code op op_line (StoreAt v line)
stored_at (Stands z) op op_line line = []

-- What is done at a target after the right side.
abbrev pub stored_code : Here → Option Kind → ℕ → ExprTree → List Instr
stored_code h op op_line (parenthesized e) = stored_code h op op_line e
stored_code h op op_line (named x) = stored_alone (sense_of h x) op op_line x.pos.line
stored_code h op op_line (element x b e) = stored_at (sense_of h x) op op_line x.pos.line
stored_code h op op_line _ = []

-- `++` and `--` of a variable; 0 for a name that is none.
abbrev pub adjust_alone : Sense → Kind → ℕ → ℕ → Bool → Instr
adjust_alone (Varies v) by op_line line is_before = Adjust v by op_line line is_before
adjust_alone (Stands z) by op_line line is_before = Push (pos 0)

-- The same of an element, after its subscript.
abbrev pub adjust_at : Sense → Kind → ℕ → ℕ → Bool → Instr
adjust_at (Varies v) by op_line line is_before = AdjustAt v by op_line line is_before
adjust_at (Stands z) by op_line line is_before = Push (pos 0)

-- The instruction of `++` or `--` at a target, after its subscript.
abbrev pub adjust_code : Here → Kind → ℕ → Bool → ExprTree → Instr
adjust_code h by op_line is_before (parenthesized e) = adjust_code h by op_line is_before e
adjust_code h by op_line is_before (named x) = adjust_alone (sense_of h x) by op_line x.pos.line is_before
adjust_code h by op_line is_before (element x b e) = adjust_at (sense_of h x) by op_line x.pos.line is_before
adjust_code h by op_line is_before _ = Push (pos 0)

-- `pvPut` of a variable, with `ASYNC` or without; 0 for a name that is none.
abbrev pub put_alone : Bool → Sense → Instr
put_alone async (Varies v) = Put v async
put_alone async (Stands z) = Push (pos 0)

-- The same of an element, after its subscript.
abbrev pub put_element : Bool → Sense → Instr
put_element async (Varies v) = PutAt v async
put_element async (Stands z) = Push (pos 0)

-- The instruction of `pvPut` at a target, after its subscript.
abbrev pub put_instr : Here → Bool → ExprTree → Instr
put_instr h async (parenthesized e) = put_instr h async e
put_instr h async (named x) = put_alone async (sense_of h x)
put_instr h async (element x b e) = put_element async (sense_of h x)
put_instr h async _ = Push (pos 0)

-- What a call asks by a name: of the link of a variable, or of an event flag.
abbrev pub ask_alone : Sense → Query → ℕ → Instr
ask_alone (Varies v) query flag = AskLink query v
ask_alone (Stands z) query flag = Ask query flag

-- The same by an element, after its subscript.
abbrev pub ask_element : Sense → Query → Instr
ask_element (Varies v) query = AskElement query v
ask_element (Stands z) query = Push (pos 0)

-- The instruction of a call that asks by a target, after its subscript.
abbrev pub ask_instr : Here → Query → ExprTree → Instr
ask_instr h query (parenthesized e) = ask_instr h query e
ask_instr h query (named x) = ask_alone (sense_of h x) query (flag_number h x)
ask_instr h query (element x b e) = ask_element (sense_of h x) query
ask_instr h query _ = Push (pos 0)
