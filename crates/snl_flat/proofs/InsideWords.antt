-- The code of the words of an expression lies inside, wherever it stands, as long as an instruction stands behind it.
use Rattle.std.proofs.Common.{◌≡◌, ◌∙◌, ◌+◌, ◌<◌, ◌≤◌, refl, sym, ap, subst, true≢false, arith, ℕ, suc, ℤ, pos, Bool, true, false, List, [], ◌∷◌, ◌++◌, Option, None, Some, length, length-append, if◌then◌else◌}
use Rattle.std.specs.Prelude.{◌||◌, not}
use Rattle.snl_text.specs.declared.kinds.Kind.{Kind}
use Rattle.snl_text.specs.declared.tokens.Pos.{Pos}
use Rattle.snl_text.specs.declared.tokens.Token.{Token}
use Rattle.snl_syntax.specs.Expressions.{ExprTree, ArgumentList, constant, parenthesized, named, element, call, postfix, prefix, chain, conditional, assignment, no_arguments, value, text}
use Rattle.snl_syntax.specs.Programs.{ProgramTree}
use Rattle.snl_names.specs.declared.builtins.Builtin.{Builtin}
use Rattle.snl_names.specs.declared.builtins.Builtin.TheVariants.{Delay, Printf, PvPut, Ask}
use Rattle.snl_names.specs.declared.builtins.Query.{Query}
use Rattle.snl_names.specs.declared.calls.Form.{Form}
use Rattle.snl_names.specs.declared.calls.Form.TheVariants.{ChannelPlace, PutPlace, QueueName, FlagName, Seconds}
use Rattle.snl_names.specs.declared.constants.Constant.{Constant}
use Rattle.snl_names.specs.declared.constants.Constant.TheVariants as worth
use Rattle.snl_names.specs.declared.sites.Meaning.{Meaning}
use Rattle.snl_names.specs.declared.sites.Purpose.{Purpose}
use Rattle.snl_names.specs.declared.sites.Purpose.TheVariants.{Flagged, Ignored}
use Rattle.snl_names.specs.declared.sites.Site.TheVariants.{Use}
use Rattle.snl_names.specs.Builtins.{form_of}
use Rattle.snl_names.specs.declared.calls.CallKind.{CallKind}
use Rattle.snl_names.specs.declared.calls.CallKind.TheVariants.{Unknown, BuiltIn, Defined}
use Rattle.snl_names.specs.Calls.{is_name, fits, is_fitting, is_known}
use Rattle.snl_names.specs.Purposes.{inner, in_parentheses, target, argument_of, argument, is_ignored, at_call, at_change}
use Rattle.snl_names.specs.Programs.{sites}
use Rattle.snl_names.specs.Scopes.{meaning}
use Rattle.snl_names.specs.Uses.{declared_in}
use Rattle.snl_names.specs.Variables.{functions_of}
use Rattle.snl_names.specs.Sights.{Sight}
use Rattle.snl_names.specs.Sites.{in_expression}
use Rattle.snl_meaning.specs.declared.instrs.Instr.{Instr}
use Rattle.snl_meaning.specs.declared.instrs.Instr.TheVariants as instr
use Rattle.snl_meaning.specs.declared.instrs.Variable.{Variable}
use Rattle.snl_meaning.specs.declared.names.Sense.{Sense}
use Rattle.snl_meaning.specs.declared.names.Sense.TheVariants.{Varies, Stands}
use Rattle.snl_meaning.specs.declared.operators.Joint.{Joint}
use Rattle.snl_meaning.specs.declared.operators.Joint.TheVariants.{And, Or, Sequel, Operation}
use Rattle.snl_meaning.specs.declared.operators.Unary.{Unary}
use Rattle.snl_meaning.specs.declared.operators.Unary.TheVariants.{ByOne, OfValue}
use Rattle.snl_meaning.specs.Names.{number_by, flags_of}
use Rattle.snl_emit.specs.Worth.{worth_or}
use Rattle.snl_emit.specs.ExpressionCode.{folded, joint_code, if_code, name_code, at_code, put_at_code, renewed_code, put_code, CodeOn, at_name_code, signed_code, called_code, routine_code, ask_flag_code}
use Rattle.snl_flat.specs.Inside.{IsVariableOf, FlagsAreDeclared, NamesInside}
use Rattle.snl_flat.proofs.InsideParts.{Leads, Fits, fits-append, flag-below, IsSite, AllIn, Standing, h, Knows}

module _ (p : ProgramTree) (set : ℕ) where
  -- what is known of the names of an instruction
  abbrev pub Named : Instr → Type 0
  Named = NamesInside p set

  -- code lies inside wherever it stands, if an instruction stands behind it
  abbrev pub Anywhere : List Instr → Type 0
  Anywhere code = (before after : ℕ) → 1 ≤ after → Fits Named before after code

  -- ---- parts

  -- no code
  pub any-none : Anywhere []
  any-none b a some = tt

  -- an instruction that leads to the next, and others
  abbrev pub Plain : Instr → Type 0
  Plain i = (before after : ℕ) → 0 < after → Leads before after i

  -- it stands before code
  pub any-cons : (i : Instr) (x : List Instr) → Plain i → Named i → Anywhere x → Anywhere (i ∷ x)
  any-cons i x plain names f b a some = (plain b (length x + a) (omega (arith, some)), names, f (suc b) a some)

  -- it stands alone
  pub any-one : (i : Instr) → Plain i → Named i → Anywhere (i ∷ [])
  any-one i plain names = any-cons i [] plain names any-none

  -- two, one after the other
  pub any-append : (x y : List Instr) → Anywhere x → Anywhere y → Anywhere (x ++ y)
  any-append x y f g b a some = fits-append Named b a x y (f b (length y + a) (omega (arith, some))) (g (b + length x) a some)

  -- a number
  pub any-push : (z : _) → Anywhere (instr.Push z ∷ [])
  any-push z = any-one (instr.Push z) (λ b a some. some) tt

  -- the push of what is constant, or what it would be
  pub any-folded : (c : Constant) (own : List Instr) → Anywhere own → Anywhere (folded c own)
  any-folded worth.Varies own f = f
  any-folded worth.Faults own f = f
  any-folded (worth.Worth z) own f = any-push z

  -- what goes on with a number, or something else
  pub any-or : (c : Constant) (led : ℤ → List Instr) (own : List Instr) → ((z : ℤ) → Anywhere (led z)) → Anywhere own → Anywhere (worth_or c led own)
  any-or worth.Varies led own l f = f
  any-or worth.Faults led own l f = f
  any-or (worth.Worth z) led own l f = l z

  -- `&&`
  fits-and : (right : List Instr) → Anywhere right → (b a : ℕ) → 1 ≤ a → (line : ℕ) → Fits Named b a (joint_code And line None right)
  fits-and right f b a some line =
      let tail = instr.Settle ∷ instr.Jump 1 ∷ instr.Push (pos 0) ∷ [] in
      let long = length-append right tail in (
        omega (arith, long, some),
        tt,
        fits-append Named (suc b) a right tail (f (suc b) (length tail + a) (omega (arith, some)))
            (omega arith, tt, (omega (arith, some), tt, (omega (arith, some), tt, tt))),
      )

  -- `||`
  fits-or : (right : List Instr) → Anywhere right → (b a : ℕ) → 1 ≤ a → (line : ℕ) → Fits Named b a (joint_code Or line None right)
  fits-or right f b a some line =
      let tail = instr.Settle ∷ [] in
      let long = length-append right tail in
      let n = suc (suc (suc b)) in (
        omega (arith, long, some),
        tt,
        (omega arith, tt, (omega (arith, long, some), tt, fits-append Named n a right tail (f n (length tail + a) (omega (arith, some))) (omega (arith, some), tt, tt))),
      )

  -- an operator with the code of its operand
  pub any-joint : (j : Joint) (line : ℕ) (n : Option ℤ) (right : List Instr) → Anywhere right → Anywhere (joint_code j line n right)
  any-joint And line n right f = λ b a some. fits-and right f b a some line
  any-joint Or line n right f = λ b a some. fits-or right f b a some line
  any-joint Sequel line n right f = any-cons instr.Drop right (λ b a some. some) tt f
  any-joint (Operation op) line (Some z) right f = any-one (instr.ApplyNumber op z line) (λ b a some. some) tt
  any-joint (Operation op) line None right f = any-append right (instr.Apply op line ∷ []) f (any-one (instr.Apply op line) (λ b a some. some) tt)

  -- one of two
  pub fits-if : (c held failed : List Instr) (b a : ℕ) → 1 ≤ a → Anywhere c → ((n : ℕ) → Fits Named n (suc (length failed) + a) held) → ((n : ℕ) → Fits Named n a failed) →
      Fits Named b a (if_code c held failed)
  fits-if c held failed b a some f g k =
      let other = instr.Jump (length failed) ∷ failed in
      let long = length-append held other in
      let start = b + length c in
      fits-append Named b a c (instr.JumpIfZero (length held + 1) ∷ (held ++ other)) (f b (length (instr.JumpIfZero (length held + 1) ∷ (held ++ other)) + a) (omega (arith, some))) (
        omega (arith, long, some),
        tt,
        fits-append Named (suc start) a held other (g (suc start)) (omega (arith, some), tt, k (suc (suc start + length held))),
      )

  -- a name
  pub any-name : (s : Sense) → Knows p set s → Anywhere (name_code s ∷ [])
  any-name (Varies v) is = any-one (instr.Load v) (λ b a some. some) is
  any-name (Stands z) is = any-push z

  -- after a subscript
  pub any-at : (s : Sense) (line : ℕ) (go : Variable → List Instr) (other : List Instr) → Knows p set s → ((v : Variable) → IsVariableOf p set v → Anywhere (go v)) → Anywhere other →
      Anywhere (at_code s line go other)
  any-at (Varies v) line go other is f g = any-cons (instr.Check v line) (go v) (λ b a some. some) is (f v is)
  any-at (Stands z) line go other is f g = any-cons instr.Drop other (λ b a some. some) tt g

  -- at a name
  pub any-at_name : (s : Sense) (x : Token) (alone : CodeOn) (other : List Instr) → Knows p set s → ((v : Variable) (y : Token) → IsVariableOf p set v → Anywhere (alone v y)) → Anywhere other →
      Anywhere (at_name_code s x alone other)
  any-at_name (Varies v) x alone other is f g = f v x is
  any-at_name (Stands z) x alone other is f g = g

  -- an assignment to an element
  pub any-put_at : (op : Option Kind) (op_line : ℕ) (right : List Instr) (line : ℕ) (v : Variable) → IsVariableOf p set v → Anywhere right → Anywhere (put_at_code op op_line right line v)
  any-put_at None op_line right line v is f = any-append right (instr.StoreAt v line ∷ []) f (any-one (instr.StoreAt v line) (λ b a some. some) is)
  any-put_at (Some op) op_line right line v is f =
      any-cons (instr.Peek v) _ (λ b a some. some) is
      (any-append (right ++ instr.Apply op op_line ∷ []) (instr.StoreAt v line ∷ [])
      (any-append right (instr.Apply op op_line ∷ []) f (any-one (instr.Apply op op_line) (λ b a some. some) tt)) (any-one (instr.StoreAt v line) (λ b a some. some) is))

  -- what is stored in a variable
  pub any-renewed : (op : Option Kind) (op_line : ℕ) (right : List Instr) (v : Variable) → IsVariableOf p set v → Anywhere right → Anywhere (renewed_code op op_line right v)
  any-renewed None op_line right v is f = f
  any-renewed (Some op) op_line right v is f =
      any-cons (instr.Load v) _ (λ b a some. some) is (any-append right (instr.Apply op op_line ∷ []) f (any-one (instr.Apply op op_line) (λ b a some. some) tt))

  -- an assignment to a variable
  pub any-put : (op : Option Kind) (op_line : ℕ) (right : List Instr) (v : Variable) (line : ℕ) → IsVariableOf p set v → Anywhere right → Anywhere (put_code op op_line right v line)
  any-put op op_line right v line is f =
      any-append (renewed_code op op_line right v) (instr.Store v line ∷ []) (any-renewed op op_line right v is f) (any-one (instr.Store v line) (λ b a some. some) is)

  -- a sign
  pub any-signed : (s : Unary) (stepping : Kind → List Instr) (operand : List Instr) (line : ℕ) → ((by : Kind) → Anywhere (stepping by)) → Anywhere operand →
      Anywhere (signed_code s stepping operand line)
  any-signed (ByOne op) stepping operand line f g = f op
  any-signed (OfValue op) stepping operand line f g = any-append operand (instr.ApplyPrefix op line ∷ []) g (any-one (instr.ApplyPrefix op line) (λ b a some. some) tt)

  -- a call of a function
  pub any-routine : (o : Option ℕ) (values : List Instr) (count line : ℕ) → ((n : ℕ) → o ≡ Some n → n < length (functions_of p)) → Anywhere values →
      Anywhere (routine_code o values count line)
  any-routine None values count line below f = any-push (pos 0)
  any-routine (Some n) values count line below f = any-append values (instr.Call n count line ∷ []) f (any-one (instr.Call n count line) (λ b a some. some) (below n refl))

  -- a call
  pub any-called : (o : Option Builtin) (print wait put : List Instr) (ask : Query → List Instr) (routine : List Instr) → Anywhere print → Anywhere wait → Anywhere put →
      ((q : Query) → o ≡ Some (Ask q) → Anywhere (ask q)) → Anywhere routine → Anywhere (called_code o print wait put ask routine)
  any-called None print wait put ask routine f g k l r = r
  any-called (Some Delay) print wait put ask routine f g k l r = g
  any-called (Some Printf) print wait put ask routine f g k l r = f
  any-called (Some PvPut) print wait put ask routine f g k l r = k
  any-called (Some (Ask query)) print wait put ask routine f g k l r = l query refl

  -- ---- event flags

  -- what stands in no wrong call
  abbrev IsAsked : Purpose → Type 0
  IsAsked Ignored = ⊥
  IsAsked u = Unit {0}

  -- so it is where the rules are kept
  abbrev pub Asks : Purpose → Type 0
  Asks u = FlagsAreDeclared p → IsAsked u

  -- what it is for is not ignored
  asked-not : (u : Purpose) → IsAsked u → is_ignored u ≡ false
  asked-not Ignored k = absurd k
  asked-not _ k = refl

  -- nor are its operands,
  pub asks-inner : (u : Purpose) → Asks u → Asks (inner u)
  asks-inner Ignored k = k
  asks-inner _ k = λ good. tt

  -- what stands in parentheses,
  pub asks-parentheses : (u : Purpose) → Asks u → Asks (in_parentheses u)
  asks-parentheses Ignored k = k
  asks-parentheses _ k = λ good. tt

  -- and its target
  pub asks-target : (u : Purpose) → Asks u → Asks (target u)
  asks-target Ignored k = k
  asks-target _ k = λ good. tt

  -- an argument of the form that a call takes is for something
  asked-form : (f : Form) → IsAsked (argument_of f)
  asked-form ChannelPlace = tt
  asked-form PutPlace = tt
  asked-form QueueName = tt
  asked-form FlagName = tt
  asked-form Seconds = tt
  asked-form _ = tt

  -- the arguments of a call that the rules let pass are for something
  asked-argument : (u : Purpose) (c : CallKind) (fit : Bool) → IsAsked u → (is_known c || is_ignored u) ≡ true → (not (is_known c) || fit || is_ignored u) ≡ true → IsAsked (argument u c fit)
  asked-argument Ignored c fit k known fits = absurd k
  asked-argument _ Unknown fit k known fits = absurd (true≢false (sym known))
  asked-argument _ (BuiltIn b) true k known fits = asked-form (form_of b)
  asked-argument _ (BuiltIn b) false k known fits = absurd (true≢false (sym fits))
  asked-argument _ (Defined f) true k known fits = tt
  asked-argument _ (Defined f) false k known fits = absurd (true≢false (sym fits))

  -- so they are in a program
  pub asks-argument : (u : Purpose) (w : Bool) (f : Token) (c : CallKind) (fit : Bool) → Asks u → IsSite p (at_call u w f c fit) → Asks (argument u c fit)
  asks-argument u w f c fit k site = λ good. let kept = good.calls site.0 f _ _ _ _ _ site.1 in asked-argument u c fit (k good) kept.0 kept.1

  -- where a call takes the name of an event flag, its arguments are for that, and have that form
  abbrev pub TakesFlag : Query → Purpose → ArgumentList → Type 0
  TakesFlag query u args = FlagsAreDeclared p → form_of (Ask query) ≡ FlagName → (u ≡ Flagged) × (fits FlagName args ≡ true)

  -- so it is where the arguments have their form
  flagged-argument : (u : Purpose) (query : Query) (fit : Bool) → IsAsked u → (fit || is_ignored u) ≡ true → form_of (Ask query) ≡ FlagName →
      (argument u (BuiltIn (Ask query)) fit ≡ Flagged) × (fit ≡ true)
  flagged-argument Ignored query fit k fits form = absurd k
  flagged-argument _ query true k fits form = (ap argument_of form, refl)
  flagged-argument _ query false k fits form = absurd (true≢false (sym fits))

  -- and where a function is called
  pub takes-flag : (u : Purpose) (w : Bool) (f : Token) (c : CallKind) (args : ArgumentList) → Asks u → IsSite p (at_call u w f c (is_fitting c args)) → (query : Query) →
      c ≡ BuiltIn (Ask query) → TakesFlag query (argument u c (is_fitting c args)) args
  takes-flag u w f c args k site query is = λ good form.
      let kept = good.calls site.0 f _ _ _ _ _ site.1 in
      let fit : (fits (form_of (Ask query)) args || is_ignored u) ≡ true = subst (λ (d : CallKind). (not (is_known d) || is_fitting d args || is_ignored u) ≡ true) is kept.1 in
      let both = flagged-argument u query (fits (form_of (Ask query)) args) (k good) fit form in
      (subst (λ (d : CallKind). argument u d (is_fitting d args) ≡ Flagged) (sym is) both.0, ap (λ (g : Form). fits g args) (sym form) ∙ both.1)

  -- what is asked of an event flag, by its number
  pub any-flag : (query : Query) (n : ℕ) → Named (instr.Ask query n) → Anywhere (instr.Ask query n ∷ [])
  any-flag query n below = any-one (instr.Ask query n) (λ b a some. some) below

  -- an expression is the name of an event flag, alone
  abbrev IsFlag : ExprTree → Type 0
  IsFlag (named x) = number_by (flags_of (sites p)) (declared_in x.pos.offset (sites p)) < length (flags_of (sites p))
  IsFlag _ = ⊥

  -- the number of a name that is used as an event flag
  flag-named : (x : Token) (m : Meaning) (sub : Bool) → FlagsAreDeclared p → IsSite p (Use Flagged x m sub) → IsFlag (named x)
  flag-named x m sub good site =
      let flag = good.flags site.0 x m sub site.1 in
      subst (λ (o : Option Pos). number_by (flags_of (sites p)) o < length (flags_of (sites p))) (sym flag.2) (flag-below (flags_of (sites p)) flag.1 flag.0.offset flag.3)

  -- the only argument of a call
  pub alone-named : (e : ExprTree) (rest : ArgumentList) → fits FlagName (value e rest) ≡ true → is_name e ≡ true
  alone-named e no_arguments is = is
  alone-named e (value x more) is = absurd (true≢false (sym is))
  alone-named e (text t more) is = absurd (true≢false (sym is))

  -- it is such a name
  pub flag-argument : (e : ExprTree) (w : Bool) (s : Sight) (u : Purpose) → AllIn p (in_expression w s u e) → FlagsAreDeclared p → u ≡ Flagged → is_name e ≡ true → IsFlag e
  flag-argument (named x) w s u all good is name = flag-named x (meaning s.scopes x) false good (subst (λ (v : Purpose). IsSite p (Use v x (meaning s.scopes x) false)) is all.0)
  flag-argument (constant t) w s u all good is name = absurd (true≢false (sym name))
  flag-argument (parenthesized e) w s u all good is name = absurd (true≢false (sym name))
  flag-argument (element x b e) w s u all good is name = absurd (true≢false (sym name))
  flag-argument (call f args) w s u all good is name = absurd (true≢false (sym name))
  flag-argument (postfix e op) w s u all good is name = absurd (true≢false (sym name))
  flag-argument (prefix op e) w s u all good is name = absurd (true≢false (sym name))
  flag-argument (chain e rest) w s u all good is name = absurd (true≢false (sym name))
  flag-argument (conditional c a b) w s u all good is name = absurd (true≢false (sym name))
  flag-argument (assignment e op r) w s u all good is name = absurd (true≢false (sym name))

  -- what is asked by it
  pub any-ask_flag : (stand : Standing p set) (e : ExprTree) (query : Query) → (FlagsAreDeclared p → form_of (Ask query) ≡ FlagName → IsFlag e) → Anywhere (ask_flag_code (h p set stand) e query ∷ [])
  any-ask_flag stand (parenthesized e) query flag = any-ask_flag stand e query (λ good form. absurd (flag good form))
  any-ask_flag stand (named x) query flag = any-flag query _ flag
  any-ask_flag stand (constant t) query flag = any-push (pos 0)
  any-ask_flag stand (element x b e) query flag = any-push (pos 0)
  any-ask_flag stand (call f all) query flag = any-push (pos 0)
  any-ask_flag stand (postfix e op) query flag = any-push (pos 0)
  any-ask_flag stand (prefix op e) query flag = any-push (pos 0)
  any-ask_flag stand (chain e rest) query flag = any-push (pos 0)
  any-ask_flag stand (conditional c a b) query flag = any-push (pos 0)
  any-ask_flag stand (assignment e op r) query flag = any-push (pos 0)

  -- the sites of what stands behind a sign
  pub prefix-sites : (b : Bool) (w : Bool) (s : Sight) (u : Purpose) (e : ExprTree) (op : Token) →
      AllIn p (if b then at_change u e op ∷ in_expression w s (target u) e else in_expression w s (inner u) e) → Asks u →
      (q : Purpose) × AllIn p (in_expression w s q e) × Asks q
  prefix-sites true w s u e op all k = (target u, all.1, asks-target u k)
  prefix-sites false w s u e op all k = (inner u, all, asks-inner u k)
