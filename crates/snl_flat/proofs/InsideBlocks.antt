-- The code of a statement and of a block lies inside.
use Rattle.std.proofs.Common.{◌≡◌, ◌+◌, ◌<◌, ◌≤◌, inl, inr, refl, subst, arith, ltb-true, ℕ, suc, Bool, true, false, nat_lt, List, [], ◌∷◌, ◌++◌, Option, None, Some, length, length-append, map, if◌then◌else◌}
use Rattle.std.specs.List.{flat_map}
use Rattle.snl_text.specs.declared.kinds.Kind.{Kind}
use Rattle.snl_text.specs.declared.tokens.Token.{Token}
use Rattle.snl_syntax.specs.Declarations.{TypeTree, ValueList, InitialiserTree, DeclaratorTree, DeclarationTree, no_values, last_value, value_before, single, listed}
use Rattle.snl_syntax.specs.Definitions.{declaration}
use Rattle.snl_syntax.specs.Expressions.{ExprTree, constant, parenthesized, named, element, call, postfix, prefix, chain, conditional, assignment}
use Rattle.snl_syntax.specs.Programs.{ProgramTree}
use Rattle.snl_syntax.specs.Statements.{StatementTree, StatementList, BlockTree, nested, empty, expression, break_loop, continue_loop, change_state, return_with, if_then, if_else, while_loop, for_loop, no_statements, statement, block}
use Rattle.snl_names.specs.declared.sites.Purpose.{Purpose}
use Rattle.snl_names.specs.declared.sites.Purpose.TheVariants.{Read, Dropped}
use Rattle.snl_names.specs.declared.sites.Room.{Room}
use Rattle.snl_names.specs.Purposes.{inner, in_parentheses, target}
use Rattle.snl_names.specs.Sights.{Sight, within}
use Rattle.snl_names.specs.Scopes.{scope_of}
use Rattle.snl_names.specs.Sites.{in_expression, in_value, maybe, declares, in_values, in_initialiser, in_declarator, in_declaration, in_header, in_statement, in_statements, in_block}
use Rattle.snl_names.specs.Types.{listed_values}
use Rattle.snl_meaning.specs.declared.instrs.Instr.{Instr}
use Rattle.snl_meaning.specs.declared.instrs.Instr.TheVariants as instr
use Rattle.snl_meaning.specs.declared.instrs.Variable.{Variable}
use Rattle.snl_meaning.specs.declared.names.Sense.{Sense}
use Rattle.snl_meaning.specs.declared.names.Sense.TheVariants.{Varies, Stands}
use Rattle.snl_meaning.specs.declared.operators.Unary.{Unary}
use Rattle.snl_meaning.specs.declared.operators.Unary.TheVariants.{ByOne, OfValue}
use Rattle.snl_meaning.specs.Effect.{variable_for, values_of, names_of}
use Rattle.snl_meaning.specs.Names.{Within, Piece, Body, sense_of, state_number}
use Rattle.snl_meaning.specs.Value.{compound_of, sign_of}
use Rattle.snl_emit.specs.BlockCode.{when_code, varied, named_variable, assigned_code, stepped_code, dropping_code, effect_code, dropped_code, test_code, loop_code, cleared_code, all_cleared_code, begun_code, begun_with_code, all_begun_code, entered_code, return_code, plain_return_code, returned_code, left_code, statement_code, statements_code, block_code}
use Rattle.snl_emit.specs.ExpressionCode.{expression_code, renewed_code}
use Rattle.snl_flat.specs.Heres.{here_in}
use Rattle.snl_flat.specs.Inside.{IsVariableOf}
use Rattle.snl_flat.proofs.InsideParts.{Fits, fits-append, AllIn, in-front, in-back, Standing, h, Knows, led-below, sense-knows}
use Rattle.snl_flat.proofs.InsideValues.{any-value}
use Rattle.snl_flat.proofs.InsideWords.{Named, Anywhere, Asks, asks-inner, asks-parentheses, any-renewed, any-none, any-one, any-append, fits-if}

module _ (p : ProgramTree) where
  -- the sites of each of some values
  abbrev ValuesIn : List ExprTree → Type 0
  ValuesIn [] = Unit {0}
  ValuesIn (e ∷ es) = ((s : Sight) × AllIn p (in_value s e)) × ValuesIn es

  -- and of what each of some variables begins with
  abbrev DeclaredIn : List DeclaratorTree → Type 0
  DeclaredIn [] = Unit {0}
  DeclaredIn (d ∷ ds) = ValuesIn (values_of d.initial) × DeclaredIn ds

  -- of a list in braces
  values-in : (s : Sight) (vs : ValueList) → AllIn p (in_values s vs) → ValuesIn (listed_values vs)
  values-in s no_values all = tt
  values-in s (last_value e) all = ((s, all), tt)
  values-in s (value_before e rest) all = ((s, in-front p (in_value s e) (in_values s rest) all), values-in s rest (in-back p (in_value s e) (in_values s rest) all))

  -- of an initialiser that may be missing
  initial-in : (s : Sight) (o : Option InitialiserTree) → AllIn p (maybe (in_initialiser s) o) → ValuesIn (values_of o)
  initial-in s None all = tt
  initial-in s (Some (single e)) all = ((s, all), tt)
  initial-in s (Some (listed vs)) all = values-in s vs all

  -- of names of one type
  names-in : (s : Sight) (b : Bool) (t : TypeTree) (ds : List DeclaratorTree) → AllIn p (flat_map (in_declarator s b t) ds) → DeclaredIn ds
  names-in s b t [] all = tt
  names-in s b t (d ∷ ds) all =
      let own = in-front p (in_declarator s b t d) (flat_map (in_declarator s b t) ds) all in (
        initial-in s d.initial (in-back p (flat_map (in_value s) d.sizes) (maybe (in_initialiser s) d.initial) own.1),
        names-in s b t ds (in-back p (in_declarator s b t d) (flat_map (in_declarator s b t) ds) all),
      )

  -- of two rows of names
  declared-append : (ds es : List DeclaratorTree) → DeclaredIn ds → DeclaredIn es → DeclaredIn (ds ++ es)
  declared-append [] es f g = g
  declared-append (d ∷ ds) es f g = (f.0, declared-append ds es f.1 g)

  -- of declarations
  declared-in : (s : Sight) (b : Bool) (ds : List DeclarationTree) → AllIn p (flat_map (in_declaration s b) ds) → DeclaredIn (names_of ds)
  declared-in s b [] all = tt
  declared-in s b (d ∷ ds) all =
      let own = in-front p (in_declaration s b d) (flat_map (in_declaration s b) ds) all in
      declared-append d.names (names_of ds) (names-in s b d.type_name d.names own.1) (declared-in s b ds (in-back p (in_declaration s b d) (flat_map (in_declaration s b) ds) all))

module _ (p : ProgramTree) (set : ℕ) (stand : Standing p set) where
  -- ---- parts

  -- a condition, and what is done where it holds
  fits-when : (c held : List Instr) (b a : ℕ) → 1 ≤ a → Anywhere p set c → ((n : ℕ) → Fits (Named p set) n a held) → Fits (Named p set) b a (when_code c held)
  fits-when c held b a some f g =
      let tail = instr.JumpIfZero (length held) ∷ held in
      fits-append (Named p set) b a c tail (f b (length tail + a) (omega (arith, some))) (omega (arith, some), tt, g (suc (b + length c)))

  -- an expression whose value is dropped
  any-dropping : (e : ExprTree) → Anywhere p set (expression_code (h p set stand) e) → Anywhere p set (dropping_code (h p set stand) e)
  any-dropping e f = any-append p set (expression_code (h p set stand) e) (instr.Drop ∷ []) f (any-one p set instr.Drop (λ b a some. some) tt)

  -- the variable that an expression is
  named-known : (e : ExprTree) (x : Variable × ℕ) → named_variable (h p set stand) e ≡ Some x → IsVariableOf p set x.0
  named-known (parenthesized e) x is = named-known e x is
  named-known (named y) x is = by (sense_of (h p set stand) y) (sense-knows p set stand y) is
    where
      by : (s : Sense) → Knows p set s → varied s y.pos.line ≡ Some x → IsVariableOf p set x.0
      by (Varies v) known same = let one : v ≡ x.0 = cc in subst (λ (u : Variable). IsVariableOf p set u) one known
      by (Stands z) known same = absurd (cc)
  named-known (constant t) x is = absurd (cc)
  named-known (element y b e) x is = absurd (cc)
  named-known (call f all) x is = absurd (cc)
  named-known (postfix e op) x is = absurd (cc)
  named-known (prefix op e) x is = absurd (cc)
  named-known (chain e rest) x is = absurd (cc)
  named-known (conditional c a b) x is = absurd (cc)
  named-known (assignment e op r) x is = absurd (cc)

  -- an assignment
  any-assigned : (o : Option (Variable × ℕ)) (op : Option Kind) (line : ℕ) (right other : List Instr) → ((x : Variable × ℕ) → o ≡ Some x → IsVariableOf p set x.0) → Anywhere p set right →
      Anywhere p set other → Anywhere p set (assigned_code o op line right other)
  any-assigned None op line right other is f k = k
  any-assigned (Some x) op line right other is f k =
      any-append p set (renewed_code op line right x.0) (instr.Assign x.0 0 x.1 ∷ []) (any-renewed p set op line right x.0 (is x refl) f)
      (any-one p set (instr.Assign x.0 0 x.1) (λ b a some. some) (is x refl, inr refl))

  -- `++` or `--`
  any-stepped : (o : Option (Variable × ℕ)) (sign : Unary) (line : ℕ) (other : List Instr) → ((x : Variable × ℕ) → o ≡ Some x → IsVariableOf p set x.0) → Anywhere p set other →
      Anywhere p set (stepped_code o sign line other)
  any-stepped None sign line other is k = k
  any-stepped (Some x) (ByOne by) line other is k = any-one p set (instr.Increment x.0 by line x.1) (λ b a some. some) (is x refl)
  any-stepped (Some x) (OfValue op) line other is k = k

  -- an expression for what it does
  any-effect : (e : ExprTree) (w : Bool) (s : Sight) (u : Purpose) → Asks p set u → AllIn p (in_expression w s u e) → Anywhere p set (effect_code (h p set stand) e)
  any-effect (parenthesized e) w s u q all = any-effect e w s (in_parentheses u) (asks-parentheses p set u q) all
  any-effect (assignment e op r) w s u q all =
      any-assigned (named_variable (h p set stand) e) (compound_of op.kind) op.pos.line (expression_code (h p set stand) r) (dropping_code (h p set stand) (assignment e op r)) (named-known e)
      (any-value p set stand r w s (inner u) (asks-inner p set u q) (in-back p (in_expression w s (target u) e) (in_expression w s (inner u) r) all.1))
      (any-dropping (assignment e op r) (any-value p set stand (assignment e op r) w s u q all))
  any-effect (postfix e op) w s u q all =
      any-stepped (named_variable (h p set stand) e) (sign_of op.kind) op.pos.line (dropping_code (h p set stand) (postfix e op)) (named-known e)
      (any-dropping (postfix e op) (any-value p set stand (postfix e op) w s u q all))
  any-effect (prefix op e) w s u q all =
      any-stepped (named_variable (h p set stand) e) (sign_of op.kind) op.pos.line (dropping_code (h p set stand) (prefix op e)) (named-known e)
      (any-dropping (prefix op e) (any-value p set stand (prefix op e) w s u q all))
  any-effect (constant t) w s u q all = any-dropping (constant t) (any-value p set stand (constant t) w s u q all)
  any-effect (named x) w s u q all = any-dropping (named x) (any-value p set stand (named x) w s u q all)
  any-effect (element x b e) w s u q all = any-dropping (element x b e) (any-value p set stand (element x b e) w s u q all)
  any-effect (call f args) w s u q all = any-dropping (call f args) (any-value p set stand (call f args) w s u q all)
  any-effect (chain e rest) w s u q all = any-dropping (chain e rest) (any-value p set stand (chain e rest) w s u q all)
  any-effect (conditional c x y) w s u q all = any-dropping (conditional c x y) (any-value p set stand (conditional c x y) w s u q all)

  -- the same of one that may be missing
  any-dropped : (o : Option ExprTree) (s : Sight) → AllIn p (maybe (in_value s) o) → Anywhere p set (dropped_code (h p set stand) o)
  any-dropped None s all = any-none p set
  any-dropped (Some e) s all = any-effect e false s Read (λ good. tt) all

  -- a condition that passes the next instruction
  fits-test : (o : Option ExprTree) (s : Sight) → AllIn p (maybe (in_value s) o) → (b a : ℕ) → 2 ≤ a → Fits (Named p set) b a (test_code (h p set stand) o)
  fits-test None s all b a two = tt
  fits-test (Some e) s all b a two =
      fits-append (Named p set) b a (expression_code (h p set stand) e) (instr.JumpIfZero 1 ∷ [])
      (any-value p set stand e false s Read (λ good. tt) all b (1 + a) (omega arith)) (omega (arith, two), tt, tt)

  -- a loop
  fits-loop : (line : ℕ) (body step test : List Instr) (b a : ℕ) → 1 ≤ a → ((n m : ℕ) → length step + length test + 1 < m → Fits (Named p set) n m body) → Anywhere p set step →
      ((n m : ℕ) → 2 ≤ m → Fits (Named p set) n m test) → Fits (Named p set) b a (loop_code line body step test)
  fits-loop line body step test b a some f g k =
      let tick = instr.Tick line (length test + length step + length body) ∷ [] in
      let l1 = length-append test tick in
      let l2 = length-append step (test ++ tick) in
      let l3 = length-append body (step ++ (test ++ tick)) in
      let n = suc b + length body in (
        omega (arith, l1, l2, l3),
        tt,
        fits-append (Named p set) (suc b) a body (step ++ (test ++ tick)) (f (suc b) (length (step ++ (test ++ tick)) + a) (omega (arith, l1, l2, some)))
            (fits-append (Named p set) n a step (test ++ tick) (g n (length (test ++ tick) + a) (omega (arith, some)))
            (fits-append (Named p set) (n + length step) a test tick (k (n + length step) (length tick + a) (omega (arith, some))) (omega arith, tt, tt))),
      )

  -- ---- the variables of a block

  -- a variable that is 0
  any-cleared : (o : Option Variable) → ((v : Variable) → o ≡ Some v → IsVariableOf p set v) → Anywhere p set (cleared_code o)
  any-cleared None is = any-none p set
  any-cleared (Some v) is = any-one p set (instr.Clear v) (λ b a some. some) (is v refl)

  -- all of them
  any-all_cleared : (ds : List DeclaratorTree) → Anywhere p set (all_cleared_code (h p set stand) ds)
  any-all_cleared [] = any-none p set
  any-all_cleared (d ∷ ds) =
      any-append p set (cleared_code (variable_for (h p set stand) d)) (all_cleared_code (h p set stand) ds)
      (any-cleared (variable_for (h p set stand) d) (λ v is. stand.known d.name.pos.offset v is)) (any-all_cleared ds)

  -- an element that begins with a number
  any-begun : (o : Option Variable) (line k : ℕ) → ((v : Variable) → o ≡ Some v → IsVariableOf p set v) → Anywhere p set (begun_code o line k ∷ [])
  any-begun None line k is = any-one p set instr.Drop (λ b a some. some) tt
  any-begun (Some v) line k is = by (nat_lt k v.size) refl
    where
      by : (t : Bool) → nat_lt k v.size ≡ t → Anywhere p set ((if t then instr.Assign v k line else instr.Drop) ∷ [])
      by true less = any-one p set (instr.Assign v k line) (λ b a some. some) (is v refl, inl (ltb-true k v.size less))
      by false not = any-one p set instr.Drop (λ b a some. some) tt

  -- what a variable begins with
  any-begun_with : (o : Option Variable) (line k : ℕ) (es : List ExprTree) → ((v : Variable) → o ≡ Some v → IsVariableOf p set v) → ValuesIn p es →
      Anywhere p set (begun_with_code (h p set stand) o line k es)
  any-begun_with o line k [] is all = any-none p set
  any-begun_with o line k (e ∷ es) is all =
      any-append p set (expression_code (h p set stand) e ++ begun_code o line k ∷ []) (begun_with_code (h p set stand) o line (suc k) es)
      (any-append p set (expression_code (h p set stand) e) (begun_code o line k ∷ []) (any-value p set stand e false all.0.0 Read (λ good. tt) all.0.1) (any-begun o line k is))
      (any-begun_with o line (suc k) es is all.1)

  -- what all of them do
  any-all_begun : (ds : List DeclaratorTree) → DeclaredIn p ds → Anywhere p set (all_begun_code (h p set stand) ds)
  any-all_begun [] all = any-none p set
  any-all_begun (d ∷ ds) all =
      any-append p set (begun_with_code (h p set stand) (variable_for (h p set stand) d) d.name.pos.line 0 (values_of d.initial)) (all_begun_code (h p set stand) ds)
      (any-begun_with (variable_for (h p set stand) d) d.name.pos.line 0 (values_of d.initial) (λ v is. stand.known d.name.pos.offset v is) all.0) (any-all_begun ds all.1)

  -- the entry of a block
  any-entered : (ds : List DeclaratorTree) → DeclaredIn p ds → Anywhere p set (entered_code (h p set stand) ds)
  any-entered ds all = any-append p set (all_cleared_code (h p set stand) ds) (all_begun_code (h p set stand) ds) (any-all_cleared ds) (any-all_begun ds all)

  -- ---- `return` and `state`

  -- a value that fits a type
  any-return : (i : Within) (line : ℕ) (value : List Instr) → Anywhere p set value → Anywhere p set (return_code i line value)
  any-return Piece line value f = any-none p set
  any-return (Body least greatest) line value f =
      any-append p set value (instr.Fit least greatest line ∷ instr.Return ∷ []) f (λ b a some. (omega arith, tt, (tt, tt, tt)))

  -- no value
  any-plain_return : (i : Within) → Anywhere p set (plain_return_code i)
  any-plain_return Piece = any-none p set
  any-plain_return (Body least greatest) = λ b a some. (omega arith, tt, (tt, tt, tt))

  -- a `return`
  any-returned : (line : ℕ) (o : Option ExprTree) (s : Sight) → AllIn p (maybe (in_value s) o) → Anywhere p set (returned_code (h p set stand) line o)
  any-returned line None s all = any-plain_return stand.within
  any-returned line (Some e) s all = any-return stand.within line (expression_code (h p set stand) e) (any-value p set stand e false s Read (λ good. tt) all)

  -- a `state`
  any-left : (i : Within) (state : ℕ) → (i ≡ Piece → 0 < length (here_in p set).states → state < length (here_in p set).states) → Anywhere p set (left_code i state)
  any-left Piece state below = λ b a some. (tt, below refl, tt)
  any-left (Body least greatest) state below = any-none p set

  -- ---- statements

  mutual
    -- a statement
    fits-statement : (st : StatementTree) (c : Room) (g : List Token) (s : Sight) (l : Bool) → AllIn p (in_statement c g s l st) → (out again b a : ℕ) → out < a → again < a →
        Fits (Named p set) b a (statement_code (h p set stand) out again st)
    fits-statement (nested k) c g s l all out again b a away round = fits-block k c g s l all out again b a away round
    fits-statement empty c g s l all out again b a away round = tt
    fits-statement (expression e) c g s l all out again b a away round = any-effect e false s Dropped (λ good. tt) all b a (omega (arith, away))
    fits-statement (break_loop t) c g s l all out again b a away round = (omega (arith, away), tt, tt)
    fits-statement (continue_loop t) c g s l all out again b a away round = (omega (arith, round), tt, tt)
    fits-statement (change_state t x) c g s l all out again b a away round = any-left stand.within (state_number (h p set stand) x) (led-below p set stand x) b a (omega (arith, away))
    fits-statement (return_with t e) c g s l all out again b a away round = any-returned t.pos.line e s all.1 b a (omega (arith, away))
    fits-statement (if_then e st) c g s l all out again b a away round =
        fits-when (expression_code (h p set stand) e) (statement_code (h p set stand) out again st) b a (omega (arith, away))
        (any-value p set stand e false s Read (λ good. tt) (in-front p (in_value s e) (in_statement c g s l st) all))
        (λ n. fits-statement st c g s l (in-back p (in_value s e) (in_statement c g s l st) all) out again n a away round)
    fits-statement (if_else e x y) c g s l all out again b a away round =
        let second = statement_code (h p set stand) out again y in
        let two = in-front p (in_value s e ++ in_statement c g s l x) (in_statement c g s l y) all in
        fits-if p set (expression_code (h p set stand) e) (statement_code (h p set stand) (out + 1 + length second) (again + 1 + length second) x) second b a (omega (arith, away))
        (any-value p set stand e false s Read (λ good. tt) (in-front p (in_value s e) (in_statement c g s l x) two))
        (λ n. fits-statement x c g s l (in-back p (in_value s e) (in_statement c g s l x) two) (out + 1 + length second) (again + 1 + length second) n (suc (length second) + a)
        (omega (arith, away)) (omega (arith, round)))
        (λ n. fits-statement y c g s l (in-back p (in_value s e ++ in_statement c g s l x) (in_statement c g s l y) all) out again n a away round)
    fits-statement (while_loop t e st) c g s l all out again b a away round =
        let tc = test_code (h p set stand) (Some e) in
        fits-loop t.pos.line (statement_code (h p set stand) (length tc + 1) 0 st) [] tc b a (omega (arith, away))
        (λ n m less. fits-statement st c g s true (in-back p (in_value s e) (in_statement c g s true st) all) (length tc + 1) 0 n m (omega (arith, less)) (omega (arith, less)))
        (any-none p set) (fits-test (Some e) s (in-front p (in_value s e) (in_statement c g s true st) all))
    fits-statement (for_loop t parts st) c g s l all out again b a away round =
        let tc = test_code (h p set stand) parts.condition in
        let sc = dropped_code (h p set stand) parts.step in
        let ic = dropped_code (h p set stand) parts.start in
        let bc = statement_code (h p set stand) (length sc + length tc + 1) 0 st in
        let header = in-front p (in_header s parts) (in_statement c g s true st) all in
        let start = maybe (in_value s) parts.start in
        let condition = maybe (in_value s) parts.condition in
        let step = maybe (in_value s) parts.step in
        let two = in-front p (start ++ condition) step header in
        fits-append (Named p set) b a ic (loop_code t.pos.line bc sc tc)
        (any-dropped parts.start s (in-front p start condition two) b (length (loop_code t.pos.line bc sc tc) + a) (omega (arith, away)))
        (fits-loop t.pos.line bc sc tc (b + length ic) a (omega (arith, away))
        (λ n m less. fits-statement st c g s true (in-back p (in_header s parts) (in_statement c g s true st) all) (length sc + length tc + 1) 0 n m (omega (arith, less)) (omega (arith, less)))
        (any-dropped parts.step s (in-back p (start ++ condition) step header))
        (fits-test parts.condition s (in-back p start condition two)))

    -- statements in a row
    fits-statements : (row : StatementList) (c : Room) (g : List Token) (s : Sight) (l : Bool) → AllIn p (in_statements c g s l row) → (out again b a : ℕ) → out < a → again < a →
        Fits (Named p set) b a (statements_code (h p set stand) out again row)
    fits-statements no_statements c g s l all out again b a away round = tt
    fits-statements (statement st rest) c g s l all out again b a away round =
        let rc = statements_code (h p set stand) out again rest in
        let sc = statement_code (h p set stand) (out + length rc) (again + length rc) st in
        fits-append (Named p set) b a sc rc
        (fits-statement st c g s l (in-front p (in_statement c g s l st) (in_statements c g s l rest) all) (out + length rc) (again + length rc) b (length rc + a)
        (omega (arith, away)) (omega (arith, round)))
        (fits-statements rest c g s l (in-back p (in_statement c g s l st) (in_statements c g s l rest) all) out again (b + length sc) a away round)

    -- a block
    pub fits-block : (k : BlockTree) (c : Room) (g : List Token) (s : Sight) (l : Bool) → AllIn p (in_block c g s l k) → (out again b a : ℕ) → out < a → again < a →
        Fits (Named p set) b a (block_code (h p set stand) out again k)
    fits-block (block ds row) c g s l all out again b a away round =
        let own = scope_of s.scopes (map declaration ds) in
        let inside = within own s in
        let variables = flat_map (in_declaration inside true) ds in
        let front = in-front p (declares [] own ++ variables) (in_statements c g inside l row) all in
        let ec = entered_code (h p set stand) (names_of ds) in
        let sc = statements_code (h p set stand) out again row in
        fits-append (Named p set) b a ec sc
        (any-entered (names_of ds) (declared-in p inside true ds (in-back p (declares [] own) variables front)) b (length sc + a) (omega (arith, away)))
        (fits-statements row c g inside l (in-back p (declares [] own ++ variables) (in_statements c g inside l row) all) out again (b + length ec) a away round)
