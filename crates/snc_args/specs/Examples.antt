-- Examples: words that are options, refused characters, signs in force.
use Rattle.std.specs.Prelude.{◌≡◌, true, false, [], ◌∷◌, Some, None, codes}
use Rattle.snc_args.specs.Options.{first_refused, option_of, options_among, options_in_force, rest_words}

-- `-`, `--` and `--tables` are no options; `+s` and `-Ww` are; `++` is one, whose second plus is refused.
-- `+s-w` is refused by its minus, `+a` and `-e` by their letters, `-oé` by its first. Of `+sc -c` the plus of `s` and the minus of `c`
-- are in force.
abbrev pub OptionExamples : Type 0
OptionExamples =
    (option_of (codes "-") ≡ None)
    × (option_of [] ≡ None)
    × (option_of (codes "--tables") ≡ None)
    × (option_of (codes "+s") ≡ Some (record { on = true; letters = codes "s" }))
    × (option_of (codes "-Ww") ≡ Some (record { on = false; letters = codes "Ww" }))
    × (rest_words (codes "+s" ∷ codes "--" ∷ codes "-w" ∷ codes "a.st" ∷ []) ≡ codes "--" ∷ codes "a.st" ∷ [])
    × (first_refused (options_among (codes "+s" ∷ codes "a.st" ∷ codes "+s-w" ∷ codes "-o" ∷ [])) ≡ Some (43, 45))
    × (first_refused (options_among (codes "++" ∷ [])) ≡ Some (43, 43))
    × (first_refused (options_among (codes "+a" ∷ [])) ≡ Some (43, 97))
    × (first_refused (options_among (codes "-e" ∷ [])) ≡ Some (45, 101))
    × (first_refused (options_among ((45 ∷ 195 ∷ 169 ∷ []) ∷ [])) ≡ Some (45, 233))
    × (first_refused (options_among (codes "-acdilmrsuwW" ∷ codes "+e" ∷ [])) ≡ None)
    × (options_in_force (options_among (codes "+sc" ∷ codes "a.st" ∷ codes "-c" ∷ [])) ≡ record { s = Some true; c = Some false; u = None; w = None })
