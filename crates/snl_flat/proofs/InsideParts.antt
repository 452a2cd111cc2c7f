-- Lists of instructions that lie inside, and what the names in them mean.
use Rattle.std.proofs.Common.{◌≡◌, ◌∙◌, ◌+◌, ◌<◌, ◌≤◌, ◌⊎◌, inl, inr, refl, sym, ap, subst, arith, ℕ, zero, suc, ℤ, Bool, true, false, List, [], ◌∷◌, ◌++◌, Option, None, Some, length, length-append, append_assoc, slice_get, if◌then◌else◌, true≢false, eq-eqb}
use Rattle.std.specs.Prelude.{◌-◌, ◌^◌, ◌==◌, bytes_eq}
use Rattle.std.proofs.lemmas.List.{length-map}
use Rattle.std.specs.List.{flat_map}
use Rattle.std.proofs.lemmas.Slice.Eq.{bytes_eq-Decides}
use Rattle.snl_text.specs.declared.tokens.Pos.{Pos}
use Rattle.snl_text.specs.declared.tokens.Token.{Token}
use Rattle.snl_syntax.specs.Functions.{FunctionTree}
use Rattle.snl_syntax.specs.Programs.{ProgramTree}
use Rattle.snl_names.specs.declared.sites.Site.{Site}
use Rattle.snl_names.specs.declared.sites.Site.TheVariants.{Format}
use Rattle.snl_names.specs.Constants.{predefined}
use Rattle.snl_names.specs.Numbered.{number_from, number_of}
use Rattle.snl_names.specs.Programs.{program_scopes, sites}
use Rattle.snl_names.specs.Scopes.{is_spelled}
use Rattle.snl_names.specs.Uses.{declared_in}
use Rattle.snl_names.specs.Variables.{CopyVariable, by_definitions, by_numbered, for_first, functions_of, shared_variables, variables_of}
use Rattle.snl_meaning.specs.declared.instrs.Instr.{Instr}
use Rattle.snl_meaning.specs.declared.instrs.Instr.TheVariants.{Jump, JumpIfZero, Tick, Return, Leave, End}
use Rattle.snl_meaning.specs.declared.instrs.Variable.{Variable}
use Rattle.snl_meaning.specs.declared.names.Placed.{Placed}
use Rattle.snl_meaning.specs.declared.names.Sense.{Sense}
use Rattle.snl_meaning.specs.declared.names.Sense.TheVariants.{Varies, Stands}
use Rattle.snl_meaning.specs.Functions.{Routine}
use Rattle.snl_meaning.specs.Names.{Here, Within, Piece, Body, placed_from, placed_shared, behind, variable_from, shared_from, function_number, state_number, variable_in, variable_at, variable_by, sense_by, sense_of, number_at, or_first, format_at, text_number, words_of}
use Rattle.snl_meaning.proofs.Apart.{shared_lie_within, variables_lie_within}
use Rattle.snl_flat.specs.Heres.{body_of, function_names, function_places, here_in, placed_in, routine_of, routines_in, shared_in, states_by}
use Rattle.snl_flat.specs.Inside.{LeadsInside, IsVariableOf, held_by, placed_by}

-- ---- lists of instructions

-- with so many instructions before it and so many behind it, an instruction leads to one of them
abbrev pub Leads : (before after : ℕ) → Instr → Type 0
Leads before after (Jump n) = n < after
Leads before after (JumpIfZero n) = n < after
Leads before after (Tick line back) = back ≤ before
Leads before after Return = Unit {0}
Leads before after (Leave state) = Unit {0}
Leads before after End = Unit {0}
Leads before after _ = 0 < after

-- so do all of some, and of each something else is known
abbrev pub Fits : (Instr → Type 0) → (before after : ℕ) → List Instr → Type 0
Fits N before after [] = Unit {0}
Fits N before after (i ∷ rest) = Leads before (length rest + after) i × N i × Fits N (suc before) after rest

-- two lists, one after the other
pub fits-append : (N : Instr → Type 0) (b a : ℕ) (x y : List Instr) → Fits N b (length y + a) x → Fits N (b + length x) a y → Fits N b a (x ++ y)
fits-append N b a [] y f g = subst (λ (n : ℕ). Fits N n a y) (let e : b + 0 ≡ b = omega arith in e) g
fits-append N b a (i ∷ x) y f g =
    let behind : length x + (length y + a) ≡ length (x ++ y) + a = omega (arith, length-append x y) in
    let front : b + length (i ∷ x) ≡ suc b + length x = omega arith in
    (subst (λ (n : ℕ). Leads b n i) behind f.0, f.1, fits-append N (suc b) a x y f.2 (subst (λ (n : ℕ). Fits N n a y) front g))

-- of each something else is known
pub fits-map : (N M : Instr → Type 0) (b a : ℕ) (x : List Instr) → ((i : Instr) → N i → M i) → Fits N b a x → Fits M b a x
fits-map N M b a [] go f = tt
fits-map N M b a (i ∷ x) go f = (f.0, go i f.1, fits-map N M (suc b) a x go f.2)

-- what is known of each on every copy is known on all
pub fits-all : (N : ℕ → Instr → Type 0) (b a : ℕ) (x : List Instr) → ((set : ℕ) → Fits (N set) b a x) → Fits (λ i. (set : ℕ) → N set i) b a x
fits-all N b a [] f = tt
fits-all N b a (i ∷ x) f = ((f 0).0, (λ set. (f set).1), fits-all N (suc b) a x (λ set. (f set).2))

-- what is known of one of them
pub record IsFitting (N : Instr → Type 0) (before after at : ℕ) (code : List Instr) (i : Instr) : Type 0 where
  pub behind : ℕ
  pub long : length code ≡ at + 1 + behind
  pub leads : Leads (before + at) (behind + after) i
  pub names : N i

-- one of them
pub fits-at : (N : Instr → Type 0) (b a : ℕ) (code : List Instr) (at : ℕ) (i : Instr) → Fits N b a code → slice_get code at ≡ Some i → IsFitting N b a at code i
fits-at N b a [] at i f is = absurd (cc)
fits-at N b a (j ∷ rest) zero i f is =
    let one : j ≡ i = cc in
    let before : b ≡ b + 0 = omega arith in
    record {
      behind = length rest;
      long = omega arith;
      leads = subst (λ (n : ℕ). Leads n (length rest + a) i) before (subst (λ (x : Instr). Leads b (length rest + a) x) one f.0);
      names = subst N one f.1;
    }
fits-at N b a (j ∷ rest) (suc at) i f is =
    let k = fits-at N (suc b) a rest at i f.2 is in
    let before : suc b + at ≡ b + suc at = omega arith in
    record {
      behind = k.behind;
      long = omega (arith, k.long);
      leads = subst (λ (n : ℕ). Leads n (k.behind + a) i) before k.leads;
      names = k.names;
    }

-- it leads inside
pub leads-inside : (size at before after : ℕ) (i : Instr) → before ≡ at → size ≡ at + 1 + after → Leads before after i → LeadsInside size at i
leads-inside size at before after (Jump n) front long leads = omega (arith, long, leads)
leads-inside size at before after (JumpIfZero n) front long leads = omega (arith, long, leads)
leads-inside size at before after (Tick line back) front long leads = omega (arith, front, leads)
leads-inside size at before after Return front long leads = tt
leads-inside size at before after (Leave state) front long leads = tt
leads-inside size at before after End front long leads = tt
leads-inside size at before after _ front long leads = omega (arith, long, leads)

-- ---- names

-- a variable that is found by its offset is one of those
pub found : (vs : List Placed) (offset : ℕ) (v : Variable) → variable_in vs offset ≡ Some v → (i : ℕ) × (x : Placed) × (slice_get vs i ≡ Some x) × (x.variable ≡ v)
found [] offset v is = absurd (cc)
found (y ∷ ys) offset v is = by (y.offset == offset) is (found ys offset v)
  where
    by : (b : Bool) → (if b then Some y.variable else variable_in ys offset) ≡ Some v →
        (variable_in ys offset ≡ Some v → (i : ℕ) × (x : Placed) × (slice_get ys i ≡ Some x) × (x.variable ≡ v)) →
        (i : ℕ) × (x : Placed) × (slice_get (y ∷ ys) i ≡ Some x) × (x.variable ≡ v)
    by true this others = (0, y, refl, let same : y.variable ≡ v = cc in same)
    by false this others = let there = others this in (suc there.0, there.1, there.2, there.3)

-- a body is not a piece
pub no-piece : (least greatest : ℤ) → Body least greatest ≡ Piece → ⊥
no-piece least greatest is = cc

-- no variable of a copy is one of functions
own-variable : (at : ℕ) (vs : List CopyVariable) (i : ℕ) (x : Placed) → slice_get (placed_from at vs) i ≡ Some x → x.variable.is_shared ≡ false
own-variable at [] i x is = absurd (cc)
own-variable at (v ∷ vs) zero x is =
    let one : record { offset = v.name.pos.offset; variable = variable_from at v } ≡ x = cc in
    sym (ap (λ (y : Placed). y.variable.is_shared) one)
own-variable at (v ∷ vs) (suc i) x is = own-variable (behind at v) vs i x is

-- each of those is
shared-variable : (at : ℕ) (vs : List CopyVariable) (i : ℕ) (x : Placed) → slice_get (placed_shared at vs) i ≡ Some x → x.variable.is_shared ≡ true
shared-variable at [] i x is = absurd (cc)
shared-variable at (v ∷ vs) zero x is =
    let one : record { offset = v.name.pos.offset; variable = shared_from at v } ≡ x = cc in
    sym (ap (λ (y : Placed). y.variable.is_shared) one)
shared-variable at (v ∷ vs) (suc i) x is = shared-variable (behind at v) vs i x is

-- where more variables follow, the first ones stand where they stood
placed-front : (at : ℕ) (vs ws : List CopyVariable) (i : ℕ) (x : Placed) → slice_get (placed_from at vs) i ≡ Some x → slice_get (placed_from at (vs ++ ws)) i ≡ Some x
placed-front at [] ws i x is = absurd (cc)
placed-front at (v ∷ vs) ws zero x is = is
placed-front at (v ∷ vs) ws (suc i) x is = placed-front (behind at v) vs ws i x is

-- a member of two lists, one after the other, is one of the first or one of the second
one-of : {A : Type 0} (x y : List A) (i : ℕ) (a : A) → slice_get (x ++ y) i ≡ Some a → (slice_get x i ≡ Some a) ⊎ ((k : ℕ) × (slice_get y k ≡ Some a))
one-of [] y i a is = inr (i, is)
one-of (b ∷ x) y zero a is = inl is
one-of (b ∷ x) y (suc i) a is = one-of x y i a is

-- the number of an event flag that is one of some
pub flag-below : (ds : List ℕ) (k offset : ℕ) → slice_get ds k ≡ Some offset → number_at ds offset < length ds
flag-below [] k offset is = absurd (cc)
flag-below (d ∷ ds) zero offset is = by (d == offset) refl
  where
    by : (b : Bool) → (d == offset) ≡ b → (if b then 0 else suc (number_at ds offset)) < length (d ∷ ds)
    by true same = omega arith
    by false same = let e : d ≡ offset = cc in absurd (true≢false (sym (eq-eqb d offset e) ∙ same))
flag-below (d ∷ ds) (suc k) offset is = by (d == offset) (flag-below ds k offset is)
  where
    by : (b : Bool) → number_at ds offset < length ds → (if b then 0 else suc (number_at ds offset)) < length (d ∷ ds)
    by true below = omega arith
    by false below = omega (arith, below)

-- the number of a name among some
pub named-below : (k : ℕ) (ts : List Token) (name : List ℕ) (n : ℕ) → number_from k ts name ≡ Some n → n < k + length ts
named-below k [] name n is = absurd (cc)
named-below k (t ∷ ts) name n is = by (is_spelled name t) is (named-below (suc k) ts name n)
  where
    by : (b : Bool) → (if b then Some k else number_from (suc k) ts name) ≡ Some n → (number_from (suc k) ts name ≡ Some n → n < suc k + length ts) → n < k + length (t ∷ ts)
    by true this others = let e : k ≡ n = cc in omega (arith, e)
    by false this others = let below = others this in omega (arith, below)

-- the number of a state
pub state-below : (ts : List Token) (name : List ℕ) → 0 < length ts → or_first (number_of ts name) < length ts
state-below ts name some = by (number_of ts name) refl
  where
    by : (o : Option ℕ) → number_of ts name ≡ o → or_first o < length ts
    by None is = some
    by (Some n) is = let below = named-below 0 ts name n is in omega (arith, below)

-- a text among more
text-behind : (before after : List (List ℕ)) (text : List ℕ) → text_number after text < length after → text_number (before ++ after) text < length (before ++ after)
text-behind [] after text below = below
text-behind (t ∷ before) after text below = by (bytes_eq t text) (text-behind before after text below)
  where
    by : (b : Bool) → text_number (before ++ after) text < length (before ++ after) → (if b then 0 else suc (text_number (before ++ after) text)) < length (t ∷ (before ++ after))
    by true rest = omega arith
    by false rest = omega (arith, rest)

-- the first of some
text-first : (text : List ℕ) (after : List (List ℕ)) → text_number (text ∷ after) text < length (text ∷ after)
text-first text after = by (bytes_eq text text) ((bytes_eq-Decides text text).1 refl)
  where
    by : (b : Bool) → b ≡ true → (if b then 0 else suc (text_number after text)) < length (text ∷ after)
    by true e = omega arith
    by false e = absurd (true≢false (sym e))

-- the string of a site is one of the program's
pub text-below : (ss : List Site) (n : ℕ) (t : Token) (is_good : Bool) → slice_get ss n ≡ Some (Format t is_good) →
    text_number (flat_map format_at ss) t.text.now < length (flat_map format_at ss)
text-below [] n t is_good is = absurd (cc)
text-below (s ∷ ss) zero t is_good is =
    let one : Format t is_good ≡ s = let e : s ≡ Format t is_good = cc in sym e in
    subst (λ (x : Site). text_number (format_at x ++ flat_map format_at ss) t.text.now < length (format_at x ++ flat_map format_at ss)) one
    (text-first t.text.now (flat_map format_at ss))
text-below (s ∷ ss) (suc n) t is_good is = text-behind (format_at s) (flat_map format_at ss) t.text.now (text-below ss n t is_good is)

module _ (p : ProgramTree) where
  -- a site of the program
  abbrev pub IsSite : Site → Type 0
  IsSite s = (n : ℕ) × (slice_get (sites p) n ≡ Some s)

  -- some sites of the program
  abbrev pub AllIn : List Site → Type 0
  AllIn [] = Unit {0}
  AllIn (s ∷ ss) = IsSite s × AllIn ss

  -- the first of two lists
  pub in-front : (x y : List Site) → AllIn (x ++ y) → AllIn x
  in-front [] y all = tt
  in-front (s ∷ x) y all = (all.0, in-front x y all.1)

  -- the second
  pub in-back : (x y : List Site) → AllIn (x ++ y) → AllIn y
  in-back [] y all = all
  in-back (s ∷ x) y all = in-back x y all.1

  -- what stands behind a front has its length as its number
  get-behind : (before : List Site) (s : Site) (after : List Site) → slice_get (before ++ s ∷ after) (length before) ≡ Some s
  get-behind [] s after = refl
  get-behind (b ∷ before) s after = get-behind before s after

  -- those behind others
  in-rest : (before ss : List Site) → sites p ≡ before ++ ss → AllIn ss
  in-rest before [] is = tt
  in-rest before (s ∷ ss) is = (
    (length before, ap (λ (l : List Site). slice_get l (length before)) is ∙ get-behind before s ss),
    in-rest (before ++ s ∷ []) ss (is ∙ sym (append_assoc before (s ∷ []) ss)),
  )

  -- all of them
  pub in-all : AllIn (sites p)
  in-all = in-rest [] (sites p) refl

  module _ (set : ℕ) where
    -- a variable of the copy
    pub in-copy : (i : ℕ) (x : Placed) (v : Variable) → slice_get (placed_in p set) i ≡ Some x → x.variable ≡ v → IsVariableOf p set v
    in-copy i x v is one =
        let own : false ≡ v.is_shared = sym (own-variable 0 (variables_of p set) i x is) ∙ ap (λ (u : Variable). u.is_shared) one in
        record {
          number = i;
          placed = x;
          is = subst (λ (b : Bool). slice_get (placed_by p set b) i ≡ Some x) own is;
          variable = one;
          within = subst (λ (b : Bool). words_of (held_by p set b) ≤ 2 ^ 64 - 1 → v.place + v.size ≤ words_of (held_by p set b)) own (λ few.
              let lies = variables_lie_within (variables_of p set) i x few is in
              let place : x.variable.place ≡ v.place = ap (λ (u : Variable). u.place) one in
              let size : x.variable.size ≡ v.size = ap (λ (u : Variable). u.size) one in
              omega (arith, lies, place, size));
        }

    -- a variable of functions
    pub in-functions : (i : ℕ) (x : Placed) (v : Variable) → slice_get (shared_in p) i ≡ Some x → x.variable ≡ v → IsVariableOf p set v
    in-functions i x v is one =
        let theirs : true ≡ v.is_shared = sym (shared-variable 0 (shared_variables p) i x is) ∙ ap (λ (u : Variable). u.is_shared) one in
        record {
          number = i;
          placed = x;
          is = subst (λ (b : Bool). slice_get (placed_by p set b) i ≡ Some x) theirs is;
          variable = one;
          within = subst (λ (b : Bool). words_of (held_by p set b) ≤ 2 ^ 64 - 1 → v.place + v.size ≤ words_of (held_by p set b)) theirs (λ few.
              let lies = (shared_lie_within (shared_variables p) i x few is).1 in
              let place : x.variable.place ≡ v.place = ap (λ (u : Variable). u.place) one in
              let size : x.variable.size ≡ v.size = ap (λ (u : Variable). u.size) one in
              omega (arith, lies, place, size));
        }

    -- a variable that a piece names
    pub known-in-piece : (offset : ℕ) (v : Variable) → variable_in (placed_in p set) offset ≡ Some v → IsVariableOf p set v
    known-in-piece offset v is = let there = found (placed_in p set) offset v is in in-copy there.0 there.1 v there.2 there.3

    -- a variable that a function names
    pub known-in-function : (offset : ℕ) (v : Variable) → variable_in (function_places p) offset ≡ Some v → IsVariableOf p set v
    known-in-function offset v is = by (one-of (placed_from 0 own) (shared_in p) there.0 there.1 there.2)
      where
        own : List CopyVariable
        own = by_definitions [] p.definitions

        there : (i : ℕ) × (x : Placed) × (slice_get (function_places p) i ≡ Some x) × (x.variable ≡ v)
        there = found (function_places p) offset v is

        by : (slice_get (placed_from 0 own) there.0 ≡ Some there.1) ⊎ ((k : ℕ) × (slice_get (shared_in p) k ≡ Some there.1)) → IsVariableOf p set v
        by (inl front) =
            let first = for_first set (program_scopes p) p.entry in
            let numbered = by_numbered (program_scopes p) (slice_get p.state_sets set) in
            let last = for_first set (program_scopes p) p.exit in
            in-copy there.0 there.1 v
            (placed-front 0 (own ++ first ++ numbered) last there.0 there.1
            (placed-front 0 (own ++ first) numbered there.0 there.1 (placed-front 0 own first there.0 there.1 front))) there.3
        by (inr back) = in-functions back.0 there.1 v back.1 there.3

    -- What is known where code stands that runs on the copy: what it names is there.
    pub record Standing : Type 0 where
      pub states : List Token
      pub variables : List Placed
      pub within : Within
      pub functions : List Token
      pub known : (offset : ℕ) (v : Variable) → variable_in variables offset ≡ Some v → IsVariableOf p set v
      pub led : within ≡ Piece → states ≡ states_by (slice_get p.state_sets set)
      pub fewer : length functions ≤ length (functions_of p)

    -- as the definitions have it
    abbrev pub h : Standing → Here
    h stand = record { states = stand.states; sites = sites p; variables = stand.variables; within = stand.within; functions = stand.functions }

    -- where a piece stands
    abbrev pub at-piece : Standing
    at-piece = record {
      states = states_by (slice_get p.state_sets set);
      variables = placed_in p set;
      within = Piece;
      functions = function_names p;
      known = known-in-piece;
      led = λ is. refl;
      fewer = let names = length-map (routines_in p) (λ (r : Routine). r.name) in let all = length-map (functions_of p) (routine_of p) in omega (arith, names, all);
    }

    -- where a function stands, below functions of these names
    abbrev pub at-function : (above : List Token) → length above ≤ length (functions_of p) → FunctionTree → Standing
    at-function above few f = record {
      states = [];
      variables = function_places p;
      within = body_of f.type_name;
      functions = above;
      known = known-in-function;
      led = λ is. absurd (no-piece _ _ is);
      fewer = few;
    }

    -- where a name means a variable, that is one that may be named
    abbrev pub Knows : Sense → Type 0
    Knows (Varies v) = IsVariableOf p set v
    Knows (Stands z) = Unit {0}

    -- the meaning of a name
    pub sense-knows : (stand : Standing) (x : Token) → Knows (sense_of (h stand) x)
    sense-knows stand x = by (declared_in x.pos.offset (sites p))
      where
        found-by : (q : Pos) (o : Option Variable) → variable_at (h stand) q.offset ≡ o → Knows (sense_by o (predefined x.text.now))
        found-by q None is = tt
        found-by q (Some v) is = stand.known q.offset v is

        by : (d : Option Pos) → Knows (sense_by (variable_by (h stand) d) (predefined x.text.now))
        by None = tt
        by (Some q) = found-by q (variable_at (h stand) q.offset) refl

    -- the number of a function that is called
    pub function-below : (stand : Standing) (f : Token) (n : ℕ) → function_number (h stand) f ≡ Some n → n < length (functions_of p)
    function-below stand f n is = let below = named-below 0 stand.functions f.text.now n is in let few = stand.fewer in omega (arith, below, few)

    -- the number of a state that a piece leads to
    pub led-below : (stand : Standing) (x : Token) → stand.within ≡ Piece → 0 < length (here_in p set).states → state_number (h stand) x < length (here_in p set).states
    led-below stand x is some =
        let same = stand.led is in
        subst (λ (ts : List Token). or_first (number_of stand.states x.text.now) < length ts) same
        (state-below stand.states x.text.now (subst (λ (ts : List Token). 0 < length ts) (sym same) some))
