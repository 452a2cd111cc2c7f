-- The code of an assignment, `++` or `--` is what its target does, cut where the right side stands.
use Rattle.std.proofs.Common.{◌≡◌, ◌∙◌, ℕ, Bool, List, [], ◌∷◌, ◌++◌, refl, sym, ap, append_assoc, Option, None, Some}
use Rattle.std.specs.Prelude.{pos}
use Rattle.snl_text.specs.declared.kinds.Kind.{Kind}
use Rattle.snl_text.specs.declared.tokens.Token.{Token}
use Rattle.snl_syntax.specs.Expressions.{ExprTree, constant, parenthesized, named, element, call, postfix, prefix, chain, conditional, assignment}
use Rattle.snl_meaning.specs.declared.instrs.Instr.{Instr}
use Rattle.snl_meaning.specs.declared.instrs.Instr.TheVariants.{Push, Load, Check, Peek, Store, StoreAt, Adjust, AdjustAt, Apply, Drop, Put, PutAt, Ask, AskLink, AskElement}
use Rattle.snl_names.specs.declared.builtins.Query.{Query}
use Rattle.snl_meaning.specs.Names.{Here, sense_of, flag_number}
use Rattle.snl_meaning.specs.declared.names.Sense.{Sense}
use Rattle.snl_meaning.specs.declared.names.Sense.TheVariants.{Varies, Stands}
use Rattle.snl_emit.specs.ExpressionCode.{expression_code, target_code, ask_flag_code, put_code, put_at_code, at_name_code, at_code}
use Rattle.snl_emit.specs.Targets.{place_code, stored_code, old_code, checked_code, stored_alone, stored_at, adjust_code, adjust_alone, adjust_at, put_instr, put_alone, put_element, ask_instr, ask_alone, ask_element}

-- nothing behind a list
pub nothing-behind : (l : List Instr) → l ++ [] ≡ l
nothing-behind [] = refl
nothing-behind (i ∷ l) = ap (λ m. i ∷ m) (nothing-behind l)

-- an assignment to a name
named-cut : (s : Sense) (x : Token) (op : Option Kind) (n : ℕ) (right : List Instr)
    → at_name_code s x (λ v y. put_code op n right v y.pos.line) right ≡ old_code s op ++ (right ++ stored_alone s op n x.pos.line)
named-cut (Varies v) x None n right = refl
named-cut (Varies v) x (Some op) n right = ap (λ l. Load v ∷ l) (append_assoc right (Apply op n ∷ []) (Store v x.pos.line ∷ []))
named-cut (Stands z) x None n right = sym (nothing-behind right)
named-cut (Stands z) x (Some op) n right = sym (nothing-behind right)

-- an assignment to an element, after its subscript
element-cut : (s : Sense) (x : Token) (line : ℕ) (op : Option Kind) (n : ℕ) (right : List Instr)
    → at_code s line (λ v. put_at_code op n right x.pos.line v) right ≡ checked_code s line op ++ (right ++ stored_at s op n x.pos.line)
element-cut (Varies v) x line None n right = refl
element-cut (Varies v) x line (Some op) n right = ap (λ l. Check v line ∷ Peek v ∷ l) (append_assoc right (Apply op n ∷ []) (StoreAt v x.pos.line ∷ []))
element-cut (Stands z) x line op n right = ap (λ l. Drop ∷ l) (sym (nothing-behind right))

-- an assignment at any target
pub target-cut : (h : Here) (e : ExprTree) (op : Option Kind) (n : ℕ) (right : List Instr)
    → target_code h e (λ v x. put_code op n right v x.pos.line) (λ v x. put_at_code op n right x.pos.line v) right
    ≡ place_code h op e ++ (right ++ stored_code h op n e)
target-cut h (parenthesized e) op n right = target-cut h e op n right
target-cut h (named x) op n right = named-cut (sense_of h x) x op n right
target-cut h (element x b e) op n right =
    ap (λ l. expression_code h e ++ l) (element-cut (sense_of h x) x b.pos.line op n right)
    ∙ sym (append_assoc (expression_code h e) (checked_code (sense_of h x) b.pos.line op) (right ++ stored_at (sense_of h x) op n x.pos.line))
target-cut h (constant t) op n right = sym (nothing-behind right)
target-cut h (call f all) op n right = sym (nothing-behind right)
target-cut h (postfix e t) op n right = sym (nothing-behind right)
target-cut h (prefix t e) op n right = sym (nothing-behind right)
target-cut h (chain e rest) op n right = sym (nothing-behind right)
target-cut h (conditional c a b) op n right = sym (nothing-behind right)
target-cut h (assignment e t r) op n right = sym (nothing-behind right)

-- `++` and `--` of a name
named-step : (s : Sense) (x : Token) (by : Kind) (n : ℕ) (is_before : Bool)
    → at_name_code s x (λ v y. Adjust v by n y.pos.line is_before ∷ []) (Push (pos 0) ∷ []) ≡ old_code s None ++ adjust_alone s by n x.pos.line is_before ∷ []
named-step (Varies v) x by n is_before = refl
named-step (Stands z) x by n is_before = refl

-- the same of an element
element-step : (s : Sense) (x : Token) (line : ℕ) (by : Kind) (n : ℕ) (is_before : Bool)
    → at_code s line (λ v. AdjustAt v by n x.pos.line is_before ∷ []) (Push (pos 0) ∷ []) ≡ checked_code s line None ++ adjust_at s by n x.pos.line is_before ∷ []
element-step (Varies v) x line by n is_before = refl
element-step (Stands z) x line by n is_before = refl

-- `++` and `--` at any target
pub step-cut : (h : Here) (e : ExprTree) (by : Kind) (n : ℕ) (is_before : Bool)
    → target_code h e (λ v x. Adjust v by n x.pos.line is_before ∷ []) (λ v x. AdjustAt v by n x.pos.line is_before ∷ []) (Push (pos 0) ∷ [])
    ≡ place_code h None e ++ adjust_code h by n is_before e ∷ []
step-cut h (parenthesized e) by n is_before = step-cut h e by n is_before
step-cut h (named x) by n is_before = named-step (sense_of h x) x by n is_before
step-cut h (element x b e) by n is_before =
    ap (λ l. expression_code h e ++ l) (element-step (sense_of h x) x b.pos.line by n is_before)
    ∙ sym (append_assoc (expression_code h e) (checked_code (sense_of h x) b.pos.line None) (adjust_at (sense_of h x) by n x.pos.line is_before ∷ []))
step-cut h (constant t) by n is_before = refl
step-cut h (call f all) by n is_before = refl
step-cut h (postfix e t) by n is_before = refl
step-cut h (prefix t e) by n is_before = refl
step-cut h (chain e rest) by n is_before = refl
step-cut h (conditional c a b) by n is_before = refl
step-cut h (assignment e t r) by n is_before = refl

-- `pvPut` of a name
named-put : (async : Bool) (s : Sense) (x : Token) → at_name_code s x (λ v y. Put v async ∷ []) (Push (pos 0) ∷ []) ≡ old_code s None ++ put_alone async s ∷ []
named-put async (Varies v) x = refl
named-put async (Stands z) x = refl

-- the same of an element
element-put : (async : Bool) (s : Sense) (line : ℕ) → at_code s line (λ v. PutAt v async ∷ []) (Push (pos 0) ∷ []) ≡ checked_code s line None ++ put_element async s ∷ []
element-put async (Varies v) line = refl
element-put async (Stands z) line = refl

-- `pvPut` at any target
pub put-cut : (h : Here) (async : Bool) (e : ExprTree) →
    target_code h e (λ v x. Put v async ∷ []) (λ v x. PutAt v async ∷ []) (Push (pos 0) ∷ []) ≡ place_code h None e ++ put_instr h async e ∷ []
put-cut h async (parenthesized e) = put-cut h async e
put-cut h async (named x) = named-put async (sense_of h x) x
put-cut h async (element x b e) =
    ap (λ l. expression_code h e ++ l) (element-put async (sense_of h x) b.pos.line)
    ∙ sym (append_assoc (expression_code h e) (checked_code (sense_of h x) b.pos.line None) (put_element async (sense_of h x) ∷ []))
put-cut h async (constant t) = refl
put-cut h async (call f all) = refl
put-cut h async (postfix e t) = refl
put-cut h async (prefix t e) = refl
put-cut h async (chain e rest) = refl
put-cut h async (conditional c a b) = refl
put-cut h async (assignment e t r) = refl

-- what is asked by a name
named-ask : (s : Sense) (x : Token) (query : Query) (flag : ℕ) → at_name_code s x (λ v y. AskLink query v ∷ []) (Ask query flag ∷ []) ≡ old_code s None ++ ask_alone s query flag ∷ []
named-ask (Varies v) x query flag = refl
named-ask (Stands z) x query flag = refl

-- the same of an element
element-ask : (s : Sense) (line : ℕ) (query : Query) → at_code s line (λ v. AskElement query v ∷ []) (Push (pos 0) ∷ []) ≡ checked_code s line None ++ ask_element s query ∷ []
element-ask (Varies v) line query = refl
element-ask (Stands z) line query = refl

-- a call that asks, at any target
pub ask-cut : (h : Here) (query : Query) (e : ExprTree) →
    target_code h e (λ v x. AskLink query v ∷ []) (λ v x. AskElement query v ∷ []) (ask_flag_code h e query ∷ []) ≡ place_code h None e ++ ask_instr h query e ∷ []
ask-cut h query (parenthesized e) = ask-cut h query e
ask-cut h query (named x) = named-ask (sense_of h x) x query (flag_number h x)
ask-cut h query (element x b e) =
    ap (λ l. expression_code h e ++ l) (element-ask (sense_of h x) b.pos.line query)
    ∙ sym (append_assoc (expression_code h e) (checked_code (sense_of h x) b.pos.line None) (ask_element (sense_of h x) query ∷ []))
ask-cut h query (constant t) = refl
ask-cut h query (call f all) = refl
ask-cut h query (postfix e t) = refl
ask-cut h query (prefix t e) = refl
ask-cut h query (chain e rest) = refl
ask-cut h query (conditional c a b) = refl
ask-cut h query (assignment e t r) = refl
