-- The readers of definitions are right.
use Rattle.std.proofs.Common.{◌≡◌, ℕ, ◌<◌, length, Ok, Bool, true, false, true≢false, List, [], ◌∷◌, ◌++◌, Option, Some, None, ◌⊎◌, inl, inr, refl, sym, ap, subst, append-nil}
use Rattle.snl_text.specs.declared.tokens.Token.{Token}
use Rattle.snl_text.specs.declared.kinds.Kind.{Kind}
use Rattle.snl_text.specs.declared.kinds.Kind.TheVariants.{Name, Whole, Text, Assign, EventFlag, Monitor, Sync, SyncQueue, To, OpenBrace, CloseBrace, OpenBracket, Semicolon, Comma}
use Rattle.snl_syntax.specs.Kinds.{is}
use Rattle.snl_syntax.specs.Slots.{Slot, The}
use Rattle.snl_tree.specs.reading.Readers.{one, both, either}
use Rattle.snl_syntax.specs.Sequences.{EachOfSome, Each, IfThere, sign_slots}
use Rattle.snl_tree.specs.reading.Sequences.{maybe, whether, behind, before, between, parted}
use Rattle.snl_syntax.specs.Expressions.{ExprTree}
use Rattle.snl_syntax.specs.Declarations.{starts_declaration, DeclarationTree}
use Rattle.snl_tree.specs.reading.Declarations.{bracket_at, declaration_at}
use Rattle.snl_syntax.specs.Definitions.{PlaceTree, NamesTree, one_name, name_list, ChannelsTree, AssignTree, FlagTree, SyncTree, QueueTree, DefinitionTree, declaration, assign, monitor, sync, sync_queue, event_flags, setting, function, starts_definition, place_slots, names_slots, channels_slots, assign_slots, flag_slots, sync_slots, queue_slots, definition_slots, IsPlace, AreNames, IsAssign, IsSync, IsQueue, IsDefinition}
use Rattle.snl_tree.specs.reading.Definitions.{place_at, strings_at, channel_names, names_at, channels_at, starts_channels, assign_at, monitor_at, flag_at, starts_flag, sync_at, queue_at, flags_at, event_flags_at, FormOfOther, other, other_at, definition, definition_at, definitions_at}
use Rattle.snl_tree.proofs.spelling.Laws.{Links}
use Rattle.snl_tree.proofs.spelling.Choices.{Heads, is_true, true_is}
use Rattle.snl_tree.proofs.grammar.Shapes.{avoids_heads}
use Rattle.snl_tree.proofs.grammar.Inside.{links_any}
use Rattle.snl_tree.proofs.spelling.Rights.{Form, Right, one_form, right_kind, both_form, right_both, right_made, either_form, right_either, maybe_form, right_maybe, whether_form, right_whether, behind_form, right_behind, before_form, right_before, between_form, right_between, many_form, right_many, parted_form, right_parted, right_less}
use Rattle.snl_tree.proofs.grammar.DeclarationLaws.{bracket_form, right_bracket, declaration_form, right_declaration, declaration_heads}

-- places

-- a variable or an element of one, which no bracket may follow
abbrev pub place_form : Form PlaceTree
place_form = record { slots = place_slots; good = IsPlace; follow = λ _ k. is OpenBracket k ≡ false }

-- a subscript that may be missing
abbrev subscript_form : Form (Option ExprTree)
subscript_form = maybe_form bracket_form (λ k. is OpenBracket k ≡ false)

-- the reader of places is right
pub right_place : Right place_form place_at
unfolding place_at
right_place =
    right_made (both_form (one_form (is Name)) (λ _. subscript_form)) place_form (λ x. record { name = x.0; subscript = x.1 }) (λ n. both (one (is Name)) (λ _. maybe (is OpenBracket) (bracket_at n)))
    (right_both (one_form (is Name)) (λ _. subscript_form) (λ _. one (is Name)) (λ n _. maybe (is OpenBracket) (bracket_at n)) (right_kind Name)
    (λ _. right_maybe (is OpenBracket) bracket_form (λ k. is OpenBracket k ≡ false) bracket_at right_bracket (λ _ _ _. refl) (λ _ e. e))
    (λ _ _ o _ _. links_any (λ _. Unit {0}) (subscript_form.follow o) (subscript_form.slots o) (λ _. tt)))
    (λ n x g. ((is_true Name x.0.kind g.0, g.1), refl)) (λ n p g. ((p.name, p.subscript), (true_is Name p.name.kind g.0, g.1), refl))
    (λ n x g k f. subscript_follow x.1 k f)
  where
    subscript_follow : (o : Option ExprTree) (k : Kind) → is OpenBracket k ≡ false → subscript_form.follow o k
    subscript_follow None k f = f
    subscript_follow (Some e) k f = tt

-- tokens with commas between them

-- each token that passes the test for a kind is of that kind
each_is : (K : Kind) (ts : List Token) → Each (λ t. is K t.kind ≡ true) ts → Each (λ t. t.kind ≡ K) ts
each_is K [] g = tt
each_is K (t ∷ ts) g = (is_true K t.kind g.0, each_is K ts g.1)

-- each token of a kind passes the test for it
is_each : (K : Kind) (ts : List Token) → Each (λ t. t.kind ≡ K) ts → Each (λ t. is K t.kind ≡ true) ts
is_each K [] g = tt
is_each K (t ∷ ts) g = (true_is K t.kind g.0, is_each K ts g.1)

-- where each of at least one token passes the test for a kind, each is of it
some_is : (K : Kind) (ts : List Token) → EachOfSome (λ t. is K t.kind ≡ true) ts → EachOfSome (λ t. t.kind ≡ K) ts
some_is K [] g = g
some_is K (t ∷ ts) g = (is_true K t.kind g.0, each_is K ts g.1)

-- where each of at least one token is of a kind, each passes the test for it
is_some : (K : Kind) (ts : List Token) → EachOfSome (λ t. t.kind ≡ K) ts → EachOfSome (λ t. is K t.kind ≡ true) ts
is_some K [] g = g
is_some K (t ∷ ts) g = (true_is K t.kind g.0, is_each K ts g.1)

-- at least one token of a kind, with a comma between each two
abbrev tokens_form : Kind → Form (List Token)
tokens_form K = parted_form Comma (one_form (is K)) (λ k. is Comma k ≡ false)

-- the reader of tokens of a kind with commas between them is right
right_tokens : (K : Kind) → Right (tokens_form K) (λ _. parted Comma (one (is K)))
right_tokens K = right_parted Comma (one_form (is K)) (λ k. is Comma k ≡ false) (λ _. one (is K)) (right_kind K) (λ _ e. e) (λ _ _ _. tt) (λ _ _ _ _ _. tt)

-- the reader of strings with commas between them is right
right_strings : Right (tokens_form Text) (λ _. strings_at)
unfolding strings_at
right_strings = right_tokens Text

-- the reader of names of event flags is right
right_flags : Right (tokens_form Name) (λ _. flags_at)
unfolding flags_at
right_flags = right_tokens Name

-- names of channels

-- strings with commas between them, in braces
abbrev braces_form : Form (List Token)
braces_form = between_form OpenBrace (tokens_form Text) CloseBrace

-- the names of channels: one string or a list of them
abbrev names_form : Form NamesTree
names_form = record { slots = names_slots; good = λ _. AreNames; follow = λ _ _. Unit {0} }

-- the reader of the names of channels is right
right_names : Right names_form (λ _. names_at)
unfolding names_at
right_names = right_made (either_form (one_form (is Text)) braces_form) names_form channel_names (λ _. either (is Text) (one (is Text)) (between OpenBrace strings_at CloseBrace))
    (right_either (is Text) (one_form (is Text)) braces_form (λ _. one (is Text)) (λ _. between OpenBrace strings_at CloseBrace) (right_kind Text)
    (right_between OpenBrace (tokens_form Text) (λ _. strings_at) CloseBrace right_strings (λ _ _ _. refl)) (λ _ _ g. g) (λ _ _ _. refl))
    into onto follows
  where
    into : (n : ℕ) (x : Token ⊎ List Token) → (either_form (one_form (is Text)) braces_form).good n x
        → AreNames (channel_names x) × (names_slots (channel_names x) ≡ (either_form (one_form (is Text)) braces_form).slots x)
    into n (inl t) g = (is_true Text t.kind g, refl)
    into n (inr ts) g = (some_is Text ts g, refl)

    onto : (n : ℕ) (names : NamesTree) → AreNames names → (x : Token ⊎ List Token) × (either_form (one_form (is Text)) braces_form).good n x × (channel_names x ≡ names)
    onto n (one_name t) g = (inl t, true_is Text t.kind g, refl)
    onto n (name_list ts) g = (inr ts, is_some Text ts g, refl)

    follows : (n : ℕ) (x : Token ⊎ List Token) → (either_form (one_form (is Text)) braces_form).good n x → (k : Kind) → Unit {0} → (either_form (one_form (is Text)) braces_form).follow x k
    follows n (inl t) g k f = tt
    follows n (inr ts) g k f = tt

-- what a missing `to` may stand before

-- whether `to` is there, and none follows where it is not
abbrev to_form : Form Bool
to_form = whether_form To (λ k. is To k ≡ false)

-- the reader of whether `to` is there is right
right_to : Right to_form (λ _. whether To)
right_to = right_whether To (λ k. is To k ≡ false) (λ _ e. e)

-- the channels of a variable, with `to` or without
abbrev channels_form : Form ChannelsTree
channels_form = record { slots = channels_slots; good = λ _ c. AreNames c.names; follow = λ _ _. Unit {0} }

-- the names of channels may follow `to`, and a missing one
names_link : (b : Bool) (names : NamesTree) → AreNames names → Links (to_form.follow b) (λ _. Unit {0}) (names_slots names)
names_link true names g = links_any (λ _. Unit {0}) (λ _. Unit {0}) (names_slots names) (λ _. tt)
names_link false (one_name t) g = subst (λ k. is To k ≡ false) (sym g) refl
names_link false (name_list ts) g = refl

-- the reader of channels is right
right_channels : Right channels_form (λ _. channels_at)
unfolding channels_at
right_channels = right_made (both_form to_form (λ _. names_form)) channels_form (λ x. record { to = x.0; names = x.1 }) (λ _. both (whether To) (λ _. names_at))
    (right_both to_form (λ _. names_form) (λ _. whether To) (λ _ _. names_at) right_to (λ _. right_names) (λ _ b names _ g. names_link b names g))
    (λ n x g. (g.1, refl)) (λ n c g. ((c.to, c.names), (tt, g), refl)) (λ n x g k f. tt)

-- channels begin with `to`, a string or an opening brace
channels_heads : (c : ChannelsTree) → AreNames c.names → Heads (λ k. starts_channels k ≡ true) (channels_slots c)
channels_heads c g = go c.to c.names g
  where
    go : (b : Bool) (names : NamesTree) → AreNames names → Heads (λ k. starts_channels k ≡ true) (sign_slots To b ++ names_slots names)
    go true names g = refl
    go false (one_name t) g = ap starts_channels g
    go false (name_list ts) g = refl

-- assign

-- channels that may be missing before a semicolon
abbrev target_form : Form (Option ChannelsTree)
target_form = maybe_form channels_form (λ k. k ≡ Semicolon)

-- what is assigned, up to its semicolon
abbrev pub assign_form : Form AssignTree
assign_form = record { slots = assign_slots; good = IsAssign; follow = λ _ _. Unit {0} }

-- the reader of channels that may be missing, and of the semicolon, is right
right_targets : Right (before_form target_form Semicolon) (λ _. before (maybe starts_channels channels_at) Semicolon)
right_targets = right_before target_form (λ _. maybe starts_channels channels_at) Semicolon
    (right_maybe starts_channels channels_form (λ k. k ≡ Semicolon) (λ _. channels_at) right_channels (λ _ c g. channels_heads c g) (λ k e. ap starts_channels e))
    (λ _ o _. ends o)
  where
    ends : (o : Option ChannelsTree) → target_form.follow o Semicolon
    ends None = refl
    ends (Some c) = tt

-- no token that begins channels is an opening bracket
channels_no_bracket : (k : Kind) → starts_channels k ≡ true → is OpenBracket k ≡ false
channels_no_bracket OpenBracket e = absurd (true≢false (sym e))
channels_no_bracket _ e = refl

-- slots may follow a part where what they begin with may do so
pub heads_links : (P Q F : Kind → Type 0) (ss more : List Slot) → Heads P ss → ((k : Kind) → P k → Q k) → Links Q F (ss ++ more)
heads_links P Q F [] more h f = absurd h
heads_links P Q F (s ∷ ss) more h f = f _ h

-- channels or the semicolon after them may follow a place
targets_link : (o : Option ChannelsTree) → IfThere (λ c. AreNames c.names) o → Links (λ k. is OpenBracket k ≡ false) (λ _. Unit {0}) ((before_form target_form Semicolon).slots o)
targets_link None g = refl
targets_link (Some c) g = heads_links (λ k. starts_channels k ≡ true) (λ k. is OpenBracket k ≡ false) (λ _. Unit {0}) (channels_slots c) _ (channels_heads c g) channels_no_bracket

-- a place, its channels and the semicolon
abbrev assigned_form : Form (PlaceTree × Option ChannelsTree)
assigned_form = both_form place_form (λ _. before_form target_form Semicolon)

-- the reader of assignments of channels is right
pub right_assign : Right assign_form assign_at
unfolding assign_at
right_assign = right_made (both_form (one_form (is Assign)) (λ _. assigned_form)) assign_form (λ x. record { word = x.0; place = x.1.0; channels = x.1.1 })
    (λ n. both (one (is Assign)) (λ _. both (place_at n) (λ _. before (maybe starts_channels channels_at) Semicolon)))
    (right_both (one_form (is Assign)) (λ _. assigned_form) (λ _. one (is Assign)) (λ n _. both (place_at n) (λ _. before (maybe starts_channels channels_at) Semicolon)) (right_kind Assign)
    (λ _. right_both place_form (λ _. before_form target_form Semicolon) place_at (λ _ _. before (maybe starts_channels channels_at) Semicolon) right_place
    (λ _. right_targets) (λ _ _ o _ g. targets_link o g))
    (λ _ _ b _ _. links_any (λ _. Unit {0}) (assigned_form.follow b) (assigned_form.slots b) (λ _. tt)))
    (λ n x g. ((is_true Assign x.0.kind g.0, g.1.0, g.1.1), refl)) (λ n a g. ((a.word, (a.place, a.channels)), (true_is Assign a.word.kind g.0, (g.1, g.2)), refl)) (λ n x g k f. tt)

-- monitor

-- a monitored place, between its word and the semicolon
abbrev pub monitor_form : Form PlaceTree
monitor_form = between_form Monitor place_form Semicolon

-- the reader of monitored places is right
pub right_monitor : Right monitor_form monitor_at
unfolding monitor_at
right_monitor = right_between Monitor place_form place_at Semicolon right_place (λ _ _ _. refl)

-- sync

-- the name of an event flag, with `to` or without
abbrev flag_form : Form FlagTree
flag_form = record { slots = flag_slots; good = λ _ f. f.name.kind ≡ Name; follow = λ _ _. Unit {0} }

-- a name may follow `to`, and a missing one
name_link : (b : Bool) (t : Token) → is Name t.kind ≡ true → Links (to_form.follow b) (λ _. Unit {0}) ((one_form (is Name)).slots t)
name_link true t g = tt
name_link false t g = subst (λ k. is To k ≡ false) (sym (is_true Name t.kind g)) refl

-- the reader of an event flag is right
right_flag : Right flag_form (λ _. flag_at)
unfolding flag_at
right_flag = right_made (both_form to_form (λ _. one_form (is Name))) flag_form (λ x. record { to = x.0; name = x.1 }) (λ _. both (whether To) (λ _. one (is Name)))
    (right_both to_form (λ _. one_form (is Name)) (λ _. whether To) (λ _ _. one (is Name)) right_to (λ _. right_kind Name) (λ _ b t _ g. name_link b t g))
    (λ n x g. (is_true Name x.1.kind g.1, refl)) (λ n f g. ((f.to, f.name), (tt, true_is Name f.name.kind g), refl)) (λ n x g k f. tt)

-- an event flag begins with `to` or a name
flag_heads : (f : FlagTree) → f.name.kind ≡ Name → Heads (λ k. starts_flag k ≡ true) (flag_slots f)
flag_heads f g = go f.to
  where
    go : (b : Bool) → Heads (λ k. starts_flag k ≡ true) (sign_slots To b ++ The f.name ∷ [])
    go true = refl
    go false = ap starts_flag g

-- no token that begins an event flag is an opening bracket
flag_no_bracket : (k : Kind) → starts_flag k ≡ true → is OpenBracket k ≡ false
flag_no_bracket OpenBracket e = absurd (true≢false (sym e))
flag_no_bracket _ e = refl

-- an event flag may follow a place
flag_link : (F : Kind → Type 0) (f : FlagTree) (more : List Slot) → f.name.kind ≡ Name → Links (λ k. is OpenBracket k ≡ false) F (flag_slots f ++ more)
flag_link F f more g = heads_links (λ k. starts_flag k ≡ true) (λ k. is OpenBracket k ≡ false) F (flag_slots f) more (flag_heads f g) flag_no_bracket

-- a place and the event flag that it is synced to
abbrev synced_form : Form (PlaceTree × FlagTree)
synced_form = both_form place_form (λ _. flag_form)

-- a place synced to an event flag, up to the semicolon
abbrev pub sync_form : Form SyncTree
sync_form = record { slots = sync_slots; good = IsSync; follow = λ _ _. Unit {0} }

-- the reader of synced places is right
pub right_sync : Right sync_form sync_at
unfolding sync_at
right_sync = right_made (between_form Sync synced_form Semicolon) sync_form (λ x. record { place = x.0; flag = x.1 }) (λ n. between Sync (both (place_at n) (λ _. flag_at)) Semicolon)
    (right_between Sync synced_form (λ n. both (place_at n) (λ _. flag_at)) Semicolon
    (right_both place_form (λ _. flag_form) place_at (λ _ _. flag_at) right_place (λ _. right_flag) (λ _ _ f _ g. link f g)) (λ _ _ _. tt))
    (λ n x g. (g, refl)) (λ n s g. ((s.place, s.flag), g, refl)) (λ n x g k f. tt)
  where
    link : (f : FlagTree) → f.name.kind ≡ Name → Links (λ k. is OpenBracket k ≡ false) (λ _. Unit {0}) (flag_slots f)
    link f g = subst (Links (λ k. is OpenBracket k ≡ false) (λ _. Unit {0})) (append-nil (flag_slots f)) (flag_link (λ _. Unit {0}) f [] g)

-- syncq

-- an event flag that may be missing before a whole number or a semicolon
abbrev queue_flag_form : Form (Option FlagTree)
queue_flag_form = maybe_form flag_form (λ k. (k ≡ Whole) ⊎ (k ≡ Semicolon))

-- the size of a queue, which may be missing before a semicolon
abbrev queue_size_form : Form (Option Token)
queue_size_form = maybe_form (one_form (is Whole)) (λ k. k ≡ Semicolon)

-- what holds of a whole number and of a semicolon holds of what ends a flag of a queue
queue_end : (P : Kind → Type 0) (k : Kind) → P Whole → P Semicolon → (k ≡ Whole) ⊎ (k ≡ Semicolon) → P k
queue_end P k a b e = elim e [ inl h ↦ subst P (sym h) a | inr h ↦ subst P (sym h) b ]

-- the reader of the size of a queue, with the semicolon, is right
right_queue_size : Right (before_form queue_size_form Semicolon) (λ _. before (maybe (is Whole) (one (is Whole))) Semicolon)
right_queue_size = right_before queue_size_form (λ _. maybe (is Whole) (one (is Whole))) Semicolon
    (right_maybe (is Whole) (one_form (is Whole)) (λ k. k ≡ Semicolon) (λ _. one (is Whole)) (right_kind Whole) (λ _ _ g. g) (λ k e. subst (λ z. is Whole z ≡ false) (sym e) refl))
    (λ _ o _. ends o)
  where
    ends : (o : Option Token) → queue_size_form.follow o Semicolon
    ends None = refl
    ends (Some t) = tt

-- the reader of a queue's event flag, which may be missing, is right
right_queue_flag : Right queue_flag_form (λ _. maybe starts_flag flag_at)
right_queue_flag =
    right_maybe starts_flag flag_form (λ k. (k ≡ Whole) ⊎ (k ≡ Semicolon)) (λ _. flag_at) right_flag (λ _ f g. flag_heads f g) (λ k e. queue_end (λ z. starts_flag z ≡ false) k refl refl e)

-- the size of a queue or the semicolon may follow the flag, or the place where it is missing
size_link : (n : ℕ) (o : Option FlagTree) (size : Option Token) → queue_size_form.good n size → Links (queue_flag_form.follow o) (λ _. Unit {0}) ((before_form queue_size_form Semicolon).slots size)
size_link n None None g = inr refl
size_link n None (Some t) g = inl (is_true Whole t.kind g)
size_link n (Some f) size g = links_any (λ _. Unit {0}) (λ _. Unit {0}) ((before_form queue_size_form Semicolon).slots size) (λ _. tt)

-- the flag and the size of a queue, and the semicolon
abbrev queue_tail_form : Form (Option FlagTree × Option Token)
queue_tail_form = both_form queue_flag_form (λ _. before_form queue_size_form Semicolon)

-- the reader of a queue's flag, size and semicolon is right
right_queue_tail : Right queue_tail_form (λ _. both (maybe starts_flag flag_at) (λ _. before (maybe (is Whole) (one (is Whole))) Semicolon))
right_queue_tail =
    right_both queue_flag_form (λ _. before_form queue_size_form Semicolon) (λ _. maybe starts_flag flag_at) (λ _ _. before (maybe (is Whole) (one (is Whole))) Semicolon)
    right_queue_flag (λ _. right_queue_size)
    (λ n o size _ g. size_link n o size g)

-- the flag, the size or the semicolon of a queue may follow the place
queue_link : (n : ℕ) (x : Option FlagTree × Option Token) → queue_tail_form.good n x → Links (λ k. is OpenBracket k ≡ false) (λ _. Unit {0}) (queue_tail_form.slots x)
queue_link n (Some f, size) g = flag_link (λ _. Unit {0}) f ((before_form queue_size_form Semicolon).slots size) g.0
queue_link n (None, None) g = refl
queue_link n (None, Some t) g = subst (λ k. is OpenBracket k ≡ false) (sym (is_true Whole t.kind g.1)) refl

-- all of a queue after its word
abbrev queue_rest_form : Form (PlaceTree × (Option FlagTree × Option Token))
queue_rest_form = both_form place_form (λ _. queue_tail_form)

-- a queue of a place, up to the semicolon
abbrev pub queue_form : Form QueueTree
queue_form = record { slots = queue_slots; good = IsQueue; follow = λ _ _. Unit {0} }

-- a token, if there, that passes the test for a whole number is one
whole_is : (o : Option Token) → IfThere (λ t. is Whole t.kind ≡ true) o → IfThere (λ t. t.kind ≡ Whole) o
whole_is None g = g
whole_is (Some t) g = is_true Whole t.kind g

-- a whole number, if there, passes the test for one
is_whole : (o : Option Token) → IfThere (λ t. t.kind ≡ Whole) o → IfThere (λ t. is Whole t.kind ≡ true) o
is_whole None g = g
is_whole (Some t) g = true_is Whole t.kind g

-- the reader of queues is right
pub right_queue : Right queue_form queue_at
unfolding queue_at
right_queue = right_made (both_form (one_form (is SyncQueue)) (λ _. queue_rest_form)) queue_form (λ x. record { word = x.0; place = x.1.0; flag = x.1.1.0; size = x.1.1.1 })
    (λ n. both (one (is SyncQueue)) (λ _. both (place_at n) (λ _. both (maybe starts_flag flag_at) (λ _. before (maybe (is Whole) (one (is Whole))) Semicolon))))
    (right_both (one_form (is SyncQueue)) (λ _. queue_rest_form) (λ _. one (is SyncQueue))
    (λ n _. both (place_at n) (λ _. both (maybe starts_flag flag_at) (λ _. before (maybe (is Whole) (one (is Whole))) Semicolon))) (right_kind SyncQueue)
    (λ _. right_both place_form (λ _. queue_tail_form) place_at (λ _ _. both (maybe starts_flag flag_at) (λ _. before (maybe (is Whole) (one (is Whole))) Semicolon)) right_place
    (λ _. right_queue_tail) (λ n _ x _ g. queue_link n x g))
    (λ _ _ b _ _. links_any (λ _. Unit {0}) (queue_rest_form.follow b) (queue_rest_form.slots b) (λ _. tt)))
    (λ n x g. ((is_true SyncQueue x.0.kind g.0, g.1.0, g.1.1.0, whole_is x.1.1.1 g.1.1.1), refl))
    (λ n q g. ((q.word, (q.place, (q.flag, q.size))), (true_is SyncQueue q.word.kind g.0, (g.1, (g.2, is_whole q.size g.3))), refl)) (λ n x g k f. tt)

-- evflag

-- the names of event flags, between their word and the semicolon
abbrev pub event_flags_form : Form (List Token)
event_flags_form = between_form EventFlag (tokens_form Name) Semicolon

-- the reader of declared event flags is right
pub right_event_flags : Right event_flags_form (λ _. event_flags_at)
unfolding event_flags_at
right_event_flags = right_between EventFlag (tokens_form Name) (λ _. flags_at) Semicolon right_flags (λ _ _ _. refl)

-- all definitions

-- a queue or event flags
abbrev queue_or_flags : Form (QueueTree ⊎ List Token)
queue_or_flags = either_form queue_form event_flags_form

-- a synced place, a queue or event flags
abbrev from_sync : Form (SyncTree ⊎ (QueueTree ⊎ List Token))
from_sync = either_form sync_form queue_or_flags

-- all definitions but declarations and assignments of channels
abbrev from_monitor : Form (PlaceTree ⊎ (SyncTree ⊎ (QueueTree ⊎ List Token)))
from_monitor = either_form monitor_form from_sync

-- the forms of all definitions but declarations
abbrev from_assign : Form (AssignTree ⊎ (PlaceTree ⊎ (SyncTree ⊎ (QueueTree ⊎ List Token))))
from_assign = either_form assign_form from_monitor

-- a condition that the words `monitor`, `sync`, `syncq` and `evflag` pass
abbrev Words : (Kind → Type 0) → Type 0
Words P = P Monitor × P Sync × P SyncQueue × P EventFlag

-- a queue or event flags begin with `syncq` or `evflag`
queue_heads : (n : ℕ) (P : Kind → Type 0) (x : QueueTree ⊎ List Token) → P SyncQueue → P EventFlag → queue_or_flags.good n x → Heads P (queue_or_flags.slots x)
queue_heads n P (inl q) a b g = subst P (sym g.0) a
queue_heads n P (inr names) a b g = b

-- a synced place, a queue or event flags begin with the word of one of them
sync_heads : (n : ℕ) (P : Kind → Type 0) (x : SyncTree ⊎ (QueueTree ⊎ List Token)) → P Sync → P SyncQueue → P EventFlag → from_sync.good n x → Heads P (from_sync.slots x)
sync_heads n P (inl s) a b c g = a
sync_heads n P (inr x) a b c g = queue_heads n P x b c g

-- a definition from `monitor` on begins with its word
monitor_heads : (n : ℕ) (P : Kind → Type 0) (x : PlaceTree ⊎ (SyncTree ⊎ (QueueTree ⊎ List Token))) → Words P → from_monitor.good n x → Heads P (from_monitor.slots x)
monitor_heads n P (inl p) w g = w.0
monitor_heads n P (inr x) w g = sync_heads n P x w.1 w.2 w.3 g

-- a definition that is no declaration begins with its word
assign_heads : (n : ℕ) (P : Kind → Type 0) (x : FormOfOther) → P Assign → Words P → from_assign.good n x → Heads P (from_assign.slots x)
assign_heads n P (inl a) w v g = subst P (sym g.0) w
assign_heads n P (inr x) w v g = monitor_heads n P x v g

-- the choice between the readers of all definitions but declarations is right
right_any : Right from_assign (λ n. either (is Assign) (assign_at n) (either (is Monitor) (monitor_at n) (either (is Sync) (sync_at n) (either (is SyncQueue) (queue_at n) event_flags_at))))
right_any =
    right_either (is Assign) assign_form from_monitor assign_at (λ n. either (is Monitor) (monitor_at n) (either (is Sync) (sync_at n) (either (is SyncQueue) (queue_at n) event_flags_at)))
    right_assign
    (right_either (is Monitor) monitor_form from_sync monitor_at (λ n. either (is Sync) (sync_at n) (either (is SyncQueue) (queue_at n) event_flags_at)) right_monitor
    (right_either (is Sync) sync_form queue_or_flags sync_at (λ n. either (is SyncQueue) (queue_at n) event_flags_at) right_sync
    (right_either (is SyncQueue) queue_form event_flags_form queue_at (λ _. event_flags_at) right_queue right_event_flags (λ _ q g. true_is SyncQueue q.word.kind g.0) (λ _ _ _. refl))
    (λ _ _ _. refl) (λ n x g. avoids_heads (is Sync) (queue_or_flags.follow x) (queue_or_flags.slots x) (queue_heads n (λ k. is Sync k ≡ false) x refl refl g)))
    (λ _ _ _. refl) (λ n x g. avoids_heads (is Monitor) (from_sync.follow x) (from_sync.slots x) (sync_heads n (λ k. is Monitor k ≡ false) x refl refl refl g)))
    (λ _ a g. true_is Assign a.word.kind g.0) (λ n x g. avoids_heads (is Assign) (from_monitor.follow x) (from_monitor.slots x)
    (monitor_heads n (λ k. is Assign k ≡ false) x (refl, refl, refl, refl) g))

-- a well-formed definition that is no declaration, no option and no function
abbrev pub IsOther : ℕ → DefinitionTree → Type 0
IsOther n (declaration d) = ⊥
IsOther n d = IsDefinition n d

-- a definition that is no declaration, which anything may follow
abbrev pub other_form : Form DefinitionTree
other_form = record { slots = definition_slots; good = IsOther; follow = λ _ _. Unit {0} }

-- any kind may follow each form of a definition that is no declaration
other_free : (x : FormOfOther) (k : Kind) → from_assign.follow x k
other_free (inl a) k = tt
other_free (inr (inl p)) k = tt
other_free (inr (inr (inl s))) k = tt
other_free (inr (inr (inr (inl q)))) k = tt
other_free (inr (inr (inr (inr names)))) k = tt

-- the reader of definitions that are no declarations is right
pub right_other : Right other_form other_at
unfolding other_at
right_other =
    right_made from_assign other_form other
    (λ n. either (is Assign) (assign_at n) (either (is Monitor) (monitor_at n) (either (is Sync) (sync_at n) (either (is SyncQueue) (queue_at n) event_flags_at))))
    right_any into onto (λ n x g k f. other_free x k)
  where
    into : (n : ℕ) (x : FormOfOther) → from_assign.good n x → IsOther n (other x) × (definition_slots (other x) ≡ from_assign.slots x)
    into n (inl a) g = (g, refl)
    into n (inr (inl p)) g = (g, refl)
    into n (inr (inr (inl s))) g = (g, refl)
    into n (inr (inr (inr (inl q)))) g = (g, refl)
    into n (inr (inr (inr (inr names)))) g = (some_is Name names g, refl)

    onto : (n : ℕ) (d : DefinitionTree) → IsOther n d → (x : FormOfOther) × from_assign.good n x × (other x ≡ d)
    onto n (declaration d) g = absurd g
    onto n (assign a) g = (inl a, g, refl)
    onto n (monitor p) g = (inr (inl p), g, refl)
    onto n (sync s) g = (inr (inr (inl s)), g, refl)
    onto n (sync_queue q) g = (inr (inr (inr (inl q))), g, refl)
    onto n (event_flags names) g = (inr (inr (inr (inr names))), is_some Name names g, refl)
    onto n (setting o) g = absurd g
    onto n (function f) g = absurd g

-- a definition that is no declaration begins with the word of one of five
pub other_heads : (n : ℕ) (P : Kind → Type 0) (d : DefinitionTree) → P Assign → P Monitor × P Sync × P SyncQueue × P EventFlag → IsOther n d → Heads P (definition_slots d)
other_heads n P (declaration d) w v g = absurd g
other_heads n P (assign a) w v g = subst P (sym g.0) w
other_heads n P (monitor p) w v g = v.0
other_heads n P (sync s) w v g = v.1
other_heads n P (sync_queue q) w v g = subst P (sym g.0) v.2
other_heads n P (event_flags names) w v g = v.3
other_heads n P (setting o) w v g = absurd g
other_heads n P (function f) w v g = absurd g

-- a declaration, or a definition that is none
abbrev any_form : Form (DeclarationTree ⊎ DefinitionTree)
any_form = either_form declaration_form other_form

-- a definition that is no option and no function, which anything may follow
abbrev pub definition_form : Form DefinitionTree
definition_form = record { slots = definition_slots; good = IsDefinition; follow = λ _ _. Unit {0} }

-- any kind may follow each form of a definition
any_free : (x : DeclarationTree ⊎ DefinitionTree) (k : Kind) → any_form.follow x k
any_free (inl d) k = tt
any_free (inr d) k = tt

-- the reader of definitions is right
pub right_definition : Right definition_form definition_at
unfolding definition_at
right_definition =
    right_made any_form definition_form definition (λ n. either starts_declaration (declaration_at n) (other_at n))
    (right_either starts_declaration declaration_form other_form declaration_at other_at right_declaration right_other declaration_heads
    (λ n d g. avoids_heads starts_declaration (λ _. Unit {0}) (definition_slots d) (other_heads n (λ k. starts_declaration k ≡ false) d refl (refl, refl, refl, refl) g)))
    into onto (λ n x g k f. any_free x k)
  where
    into : (n : ℕ) (x : DeclarationTree ⊎ DefinitionTree) → any_form.good n x → IsDefinition n (definition x) × (definition_slots (definition x) ≡ any_form.slots x)
    into n (inl d) g = (g, refl)
    into n (inr (declaration d)) g = absurd g
    into n (inr (assign a)) g = (g, refl)
    into n (inr (monitor p)) g = (g, refl)
    into n (inr (sync s)) g = (g, refl)
    into n (inr (sync_queue q)) g = (g, refl)
    into n (inr (event_flags names)) g = (g, refl)
    into n (inr (setting o)) g = absurd g
    into n (inr (function f)) g = absurd g

    onto : (n : ℕ) (d : DefinitionTree) → IsDefinition n d → (x : DeclarationTree ⊎ DefinitionTree) × any_form.good n x × (definition x ≡ d)
    onto n (declaration d) g = (inl d, g, refl)
    onto n (assign a) g = (inr (assign a), g, refl)
    onto n (monitor p) g = (inr (monitor p), g, refl)
    onto n (sync s) g = (inr (sync s), g, refl)
    onto n (sync_queue q) g = (inr (sync_queue q), g, refl)
    onto n (event_flags names) g = (inr (event_flags names), g, refl)
    onto n (setting o) g = absurd g
    onto n (function f) g = absurd g

-- what begins a declaration begins a definition
pub declaration_starts : (k : Kind) → starts_declaration k ≡ true → starts_definition k ≡ true
declaration_starts Assign e = refl
declaration_starts Monitor e = refl
declaration_starts Sync e = refl
declaration_starts SyncQueue e = refl
declaration_starts EventFlag e = refl
declaration_starts _ e = e

-- a definition begins with a word that begins definitions
pub definition_heads : (n : ℕ) (d : DefinitionTree) → IsDefinition n d → Heads (λ k. starts_definition k ≡ true) (definition_slots d)
definition_heads n (declaration d) g = declaration_starts d.type_name.word.kind (declaration_heads n d g)
definition_heads n (assign a) g = ap starts_definition g.0
definition_heads n (monitor p) g = refl
definition_heads n (sync s) g = refl
definition_heads n (sync_queue q) g = ap starts_definition g.0
definition_heads n (event_flags names) g = refl
definition_heads n (setting o) g = absurd g
definition_heads n (function f) g = absurd g

-- slots whose first passes one condition pass a weaker one
pub heads_more : (P Q : Kind → Type 0) (ss : List Slot) → ((k : Kind) → P k → Q k) → Heads P ss → Heads Q ss
heads_more P Q [] f h = h
heads_more P Q (s ∷ ss) f h = f _ h

-- rows of them

-- a row of definitions, which the kinds of P may follow
abbrev pub definitions_form : (Kind → Type 0) → Form (List DefinitionTree)
definitions_form P = many_form definition_form P

-- the reader of rows of definitions is right where what follows begins none
pub right_definitions : (P : Kind → Type 0) → ((k : Kind) → P k → starts_definition k ≡ false) → Right (definitions_form P) definitions_at
unfolding definitions_at
right_definitions P stop = right_many starts_definition definition_form P definition_at right_definition definition_heads stop (λ _ _ _ _ _. tt) (λ _ _ _ _ _. tt)

-- fewer tokens are left after each

-- fewer tokens are left after a definition
pub definition_less : (n : ℕ) (ts rest : List Token) (d : DefinitionTree) → definition_at n ts ≡ Ok (d, rest) → length rest < length ts
definition_less n ts rest d h =
    right_less definition_form definition_at right_definition (λ n d g. heads_more (λ k. starts_definition k ≡ true) (λ _. Unit {0}) (definition_slots d) (λ _ _. tt) (definition_heads n d g)) n
    ts rest d h

-- fewer tokens are left after a comma and a token
pub next_token_less : (K : Kind) (ts rest : List Token) (t : Token) → behind Comma (one (is K)) ts ≡ Ok (t, rest) → length rest < length ts
next_token_less K ts rest t h =
    right_less (behind_form Comma (one_form (is K))) (λ _. behind Comma (one (is K))) (right_behind Comma (one_form (is K)) (λ _. one (is K)) (right_kind K)) (λ _ _ _. tt) 0 ts rest t h
