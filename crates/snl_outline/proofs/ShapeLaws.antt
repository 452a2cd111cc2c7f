-- The shape of an outline, and its names, are those of what it tells.
use Rattle.std.proofs.Common.{◌≡◌, ◌∙◌, List, [], ◌∷◌, ap, map, refl, sym}
use Rattle.snl_outline.specs.declared.shapes.ClauseOutline.{ClauseOutline}
use Rattle.snl_outline.specs.declared.shapes.ProgramOutline.{ProgramOutline}
use Rattle.snl_outline.specs.declared.shapes.SetOutline.{SetOutline}
use Rattle.snl_outline.specs.declared.shapes.StateOutline.{StateOutline}
use Rattle.snl_outline.specs.Names.{Names, names_in, names_of, seen}
use Rattle.snl_outline.specs.Shapes.{SetShape, Shape, StateShape, outlined, outlined_set, outlined_state, set_shape, shape_of, state_shape, target_name}
use Rattle.snl_outline.specs.Told.{ProgramTold, SetTold, StateTold, clause_said, clause_told, program_said, program_told, set_said, set_told, state_said, state_told}
use Rattle.snl_syntax.specs.Programs.{ClauseTree, ProgramTree, StateSetTree, StateTree}

-- a function of each part, by way of another one
by-way : {A B C : Type 0} (f : A → C) (g : A → B) (h : B → C) → ((x : A) → f x ≡ h (g x)) → (xs : List A) → map f xs ≡ map h (map g xs)
by-way f g h same [] = refl
by-way f g h same (x ∷ xs) = λ j. same x j ∷ by-way f g h same xs j

-- the shape of what is told of a state,
abbrev state_shown : StateTold → StateShape
state_shown s = record { name = s.name; targets = map (λ c. c.target) s.clauses }

-- of a state set,
abbrev set_shown : SetTold → SetShape
set_shown g = record { name = g.name; states = map state_shown g.states }

-- and of a program
abbrev shown : ProgramTold → Shape
shown p = record { name = p.name; sets = map set_shown p.sets }

-- an outline of a state has the shape of what it says,
state-said : (s : StateOutline) → outlined_state s ≡ state_shown (state_said s)
state-said s = λ j. record { name = s.name.items; targets = by-way (λ (c : ClauseOutline). c.target.items) clause_said (λ c. c.target) (λ c. refl) s.clauses.items j }

-- that of a state set,
set-said : (g : SetOutline) → outlined_set g ≡ set_shown (set_said g)
set-said g = λ j. record { name = g.name.items; states = by-way outlined_state state_said state_shown state-said g.states.items j }

-- and that of a program
said : (o : ProgramOutline) → outlined o ≡ shown (program_said o)
said o = λ j. record { name = o.name.items; sets = by-way outlined_set set_said set_shown set-said o.sets.items j }

-- so has a state of the tree,
state-told : (s : StateTree) → state_shape s ≡ state_shown (state_told s)
state-told s = λ j. record { name = s.name.text.now; targets = by-way (λ (c : ClauseTree). target_name c.target) clause_told (λ c. c.target) (λ c. refl) s.clauses j }

-- a state set,
set-told : (g : StateSetTree) → set_shape g ≡ set_shown (set_told g)
set-told g = λ j. record { name = g.name.text.now; states = by-way state_shape state_told state_shown state-told g.states j }

-- and a program
told : (p : ProgramTree) → shape_of p ≡ shown (program_told p)
told p = λ j. record { name = p.name.text.now; sets = by-way set_shape set_told set_shown set-told p.state_sets j }

-- an outline that says what is told of a program has its shape
pub shape-by : (o : ProgramOutline) (p : ProgramTree) → program_said o ≡ program_told p → outlined o ≡ shape_of p
shape-by o p same = said o ∙ ap shown same ∙ sym (told p)

-- the names in a shape
abbrev names_shown : SetShape → Names
names_shown s = record { set = s.name; states = map (λ state. state.name) s.states }

-- those of an outline are those of its shape,
outline-named : (o : SetOutline) → seen o ≡ names_shown (outlined_set o)
outline-named o = λ j. record { set = o.name.items; states = by-way (λ (s : StateOutline). s.name.items) outlined_state (λ state. state.name) (λ state. refl) o.states.items j }

-- those of a state set too
set-named : (g : StateSetTree) → names_in g ≡ names_shown (set_shape g)
set-named g = λ j. record { set = g.name.text.now; states = by-way (λ (s : StateTree). s.name.text.now) state_shape (λ state. state.name) (λ state. refl) g.states j }

-- such an outline has the names of the program
pub names-by : (o : ProgramOutline) (p : ProgramTree) → program_said o ≡ program_told p → map seen o.sets.items ≡ names_of p
names-by o p same =
    by-way seen outlined_set names_shown outline-named o.sets.items
    ∙ ap (λ (s : Shape). map names_shown s.sets) (shape-by o p same)
    ∙ sym (by-way names_in set_shape names_shown set-named p.state_sets)
