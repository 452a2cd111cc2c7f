use Rattle.std.proofs.Common.{rules, ◌≡◌, ◌∙◌, ◌++◌, ◌∷◌, [], sym, ap, ℕ, List, map, length, ◌-◌, drop}
use Rattle.std.proofs.lemmas.List.{length-map, drop-map, map-append}
use Rattle.circular_buffer.specs.Buffer.{keep_last}
use Rattle.snl_watch.specs.Folding.{without_time}
use Rattle.snl_watch.specs.Recents.{recent_texts}
use Rattle.snl_watch.proofs.recent.Recent.push.Goals as goal

-- a view of the last of a list with one more
last-seen : {A B : Type 0} (view : A → B) (xs : List A) (x : A) (n : ℕ) → map view (keep_last n (xs ++ x ∷ [])) ≡ keep_last n (map view xs ++ view x ∷ [])
last-seen {A = A} view xs x n =
    let all : List A = xs ++ x ∷ [] in
    sym (drop-map view (length all - n) all) ∙ ap (λ k. drop (k - n) (map view all)) (sym (length-map all view)) ∙ ap (keep_last n) (map-append view xs (x ∷ []))

pub returns-in-Some-clause-texts : goal.returns-in-Some-clause-texts
returns-in-Some-clause-texts c =
    let r = c.args.self.now in
    let whole : c.replace-whole.result ≡ c.args.line.now = search rules in
    ap (λ b. map (λ line. without_time line.items) b.items) c.push_back.ensures.items ∙ last-seen _ r.lines.items c.replace-whole.result r.lines.capacity
    ∙ ap (λ l. keep_last r.lines.capacity (recent_texts r ++ without_time l.items ∷ [])) whole

pub returns-in_default-clause-texts : goal.returns-in_default-clause-texts
returns-in_default-clause-texts c =
    let r = c.args.self.now in
    let whole : c.replace-whole.result ≡ c.args.line.now = search rules in
    ap (λ b. map (λ line. without_time line.items) b.items) c.push_back.ensures.items ∙ last-seen _ r.lines.items c.replace-whole.result r.lines.capacity
    ∙ ap (λ l. keep_last r.lines.capacity (recent_texts r ++ without_time l.items ∷ [])) whole
