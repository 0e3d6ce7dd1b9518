-- What can be read off a grammar: whether it allows nothing, which types its words begin with.
use Rattle.std.specs.Prelude.{ℕ, Bool, true, false, ◌&&◌, ◌||◌, if◌then◌else◌, List, [], ◌∷◌, ◌++◌}
use Rattle.gds_grammar.specs.Grammar.{Grammar, nothing, one_of, ◌‣◌, ◌∣◌, many}

-- whether no record at all is as the grammar says
abbrev pub nullable : Grammar → Bool
nullable nothing = true
nullable (one_of code codes) = false
nullable (a ‣ b) = nullable a && nullable b
nullable (a ∣ b) = nullable a || nullable b
nullable (many a) = true

-- the types that the first record may have
abbrev pub firsts : Grammar → List ℕ
firsts nothing = []
firsts (one_of code codes) = code ∷ codes
firsts (a ‣ b) = firsts a ++ (if nullable a then firsts b else [])
firsts (a ∣ b) = firsts a ++ firsts b
firsts (many a) = firsts a
