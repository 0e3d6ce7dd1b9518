-- What was said in steps was said as a whole.
use Rattle.std.proofs.Common.{◌≡◌, ℕ, ◌+◌, ◌<◌, ◌≤◌, List, [], ◌++◌, suc, length, take, drop, get_or, Option, Some, None, Ok, Err, Result, option_map, sym, ap, subst, ◌∙◌, append_assoc, take-append-drop, arith, refl}
use Rattle.std.specs.List.{flat_map}
use Rattle.std.proofs.lemmas.List.{append-nil, take-append-le, length-append}
use Rattle.std.proofs.lemmas.List.Concat.{flat_map-append}
use Rattle.std.proofs.Math.Seq.{drop-cons, take-append-add}
use Rattle.rt_desk.specs.declared.outside.DeskError.{DeskError}
use Rattle.rt_desk.specs.declared.outside.DeskError.TheVariants.{Failed, Missing, TooLong, OutOfMemory}
use Rattle.rt_desk.specs.Desk.{Outside, SayAnswer, Says, OnlySays, IsSaid, IsSaidInPart}
use Rattle.rt_desk.proofs.OutsideLemmas.{rose_since, says_behind}
use Rattle.rt_lines.specs.Said.{LineAnswer, SaysLine}

-- nothing behind what was said leaves it as it was
nothing_behind : (said : Option (List ℕ)) → said ≡ option_map (λ before. before ++ []) said
nothing_behind None = refl
nothing_behind (Some said) = ap Some (sym (append-nil said))

-- two texts, one behind the other
one_behind : (old mid new : Option (List ℕ)) (a b : List ℕ) → mid ≡ option_map (λ before. before ++ a) old
    → new ≡ option_map (λ before. before ++ b) mid → new ≡ option_map (λ before. before ++ (a ++ b)) old
one_behind None mid new a b first second = second ∙ ap (option_map (λ said. said ++ b)) first
one_behind (Some said) mid new a b first second =
    second ∙ ap (option_map (λ said. said ++ b)) first ∙ ap Some (append_assoc said a b)

-- nothing more was said
pub none_said : (old new : Outside) → new.said ≡ old.said → IsSaid old new []
none_said old new same = same ∙ nothing_behind old.said

-- one text was said, and then another
more_said : (old mid new : Outside) (a b : List ℕ) → IsSaid old mid a → IsSaid mid new b → IsSaid old new (a ++ b)
more_said old mid new a b first second = one_behind old.said mid.said new.said a b first second

-- a text was said, and then a first part of another
part_said : (old mid new : Outside) (a b : List ℕ) (n : ℕ) → IsSaid old mid a → IsSaidInPart mid new b n → IsSaidInPart old new (a ++ b) (length a + n)
part_said old mid new a b n first second = record {
  within = omega (arith, length-append {A = ℕ}, second.within);
  prefix = rw (take-append-add a b n) (more_said old mid new a (take n b) first second.prefix);
}

-- a first part of a text is one of the text with more behind it
part_before : (old new : Outside) (a b : List ℕ) (n : ℕ) → IsSaidInPart old new a n → IsSaidInPart old new (a ++ b) n
part_before old new a b n part = record {
  within = omega (arith, length-append {A = ℕ}, part.within);
  prefix = rw (take-append-le n a b part.within) part.prefix;
}

-- what one call answers, as the answer of a line
answer_of_call : (old new : Outside) (text : List ℕ) (result : Result (Unit {0}) DeskError) → SayAnswer old new text result → LineAnswer old new text result
answer_of_call old new text (Ok _) says = says
answer_of_call old new text (Err Failed) says = says
answer_of_call old new text (Err Missing) says = says
answer_of_call old new text (Err TooLong) says = says
answer_of_call old new text (Err OutOfMemory) same =
    (0, record { within = omega arith; prefix = none_said old new same })

one_call : (old new : Outside) (text : List ℕ) (result : Result (Unit {0}) DeskError) → Says old new text result → SaysLine old new text result
one_call old new text result says = record { answer = answer_of_call old new text result says.answer; stays = says.stays }

-- the answer to a text, behind one that was said
answer_behind : (old mid new : Outside) (a b : List ℕ) (result : Result (Unit {0}) DeskError)
    → IsSaid old mid a → old.say_faults ≤ mid.say_faults → LineAnswer mid new b result → LineAnswer old new (a ++ b) result
answer_behind old mid new a b (Ok _) first le says = more_said old mid new a b first says
answer_behind old mid new a b (Err Failed) first le failed = record {
  rose = rose_since old.say_faults mid.say_faults new.say_faults le failed.rose;
  said = (length a + failed.said.0, part_said old mid new a b failed.said.0 first failed.said.1);
}
answer_behind old mid new a b (Err Missing) first le says = says
answer_behind old mid new a b (Err TooLong) first le says = says
answer_behind old mid new a b (Err OutOfMemory) first le part =
    (length a + part.0, part_said old mid new a b part.0 first part.1)

-- a text was said, and then this was answered to another
pub then_says : (old mid new : Outside) (a b : List ℕ) (result : Result (Unit {0}) DeskError)
    → IsSaid old mid a → OnlySays old mid → SaysLine mid new b result → SaysLine old new (a ++ b) result
then_says old mid new a b result first stays says = record {
  answer = answer_behind old mid new a b result first stays.say_faults says.answer;
  stays = says_behind old mid new stays says.stays;
}

-- the answer to a text that failed, before another
answer_before : (old new : Outside) (a b : List ℕ) (error : DeskError) → LineAnswer old new a (Err error) → LineAnswer old new (a ++ b) (Err error)
answer_before old new a b Failed failed = record {
  rose = failed.rose;
  said = (failed.said.0, part_before old new a b failed.said.0 failed.said.1);
}
answer_before old new a b Missing says = says
answer_before old new a b TooLong says = says
answer_before old new a b OutOfMemory part = (part.0, part_before old new a b part.0 part.1)

-- a text failed, before another
pub stops_before : (old new : Outside) (a b : List ℕ) (error : DeskError) → SaysLine old new a (Err error) → SaysLine old new (a ++ b) (Err error)
stops_before old new a b error says = record { answer = answer_before old new a b error says.answer; stays = says.stays }

-- the line that was said, written in another way
pub same_line : (old new : Outside) (said line : List ℕ) (result : Result (Unit {0}) DeskError)
    → said ≡ line → SaysLine old new said result → SaysLine old new line result
same_line old new said line result e says = subst (λ (text : List ℕ). SaysLine old new text result) e says

-- the texts of the items before one with its own, and those of the rest
split_at_item : {X : Type 0} (f : X → List ℕ) (xs : List X) (i : ℕ) (d : X) → i < length xs
    → (flat_map f (take i xs) ++ f (get_or xs i d)) ++ flat_map f (drop (suc i) xs) ≡ flat_map f xs
split_at_item f xs i d h =
    append_assoc (flat_map f (take i xs)) (f (get_or xs i d)) (flat_map f (drop (suc i) xs))
    ∙ ap (λ l. flat_map f (take i xs) ++ flat_map f l) (sym (drop-cons xs i d h))
    ∙ sym (flat_map-append f (take i xs) (drop i xs))
    ∙ ap (flat_map f) (take-append-drop i xs)

-- the texts of the items before one were said, and then its own failed
pub stops_at_item : {X : Type 0} (f : X → List ℕ) (xs : List X) (i : ℕ) (x d : X) (old mid new : Outside) (error : DeskError)
    → i < length xs → x ≡ get_or xs i d → IsSaid old mid (flat_map f (take i xs)) → OnlySays old mid
    → SaysLine mid new (f x) (Err error)
    → SaysLine old new (flat_map f xs) (Err error)
stops_at_item f xs i x d old mid new error h is first stays failed =
    same_line old new _ (flat_map f xs) (Err error)
    (ap (λ y. (flat_map f (take i xs) ++ f y) ++ flat_map f (drop (suc i) xs)) is ∙ split_at_item f xs i d h)
    (stops_before old new _ (flat_map f (drop (suc i) xs)) error
    (then_says old mid new (flat_map f (take i xs)) (f x) (Err error) first stays failed))

-- the texts of the items before one were said, and then the call for its own failed
pub stops_at_call : {X : Type 0} (f : X → List ℕ) (xs : List X) (i : ℕ) (x d : X) (old mid new : Outside) (error : DeskError)
    → i < length xs → x ≡ get_or xs i d → IsSaid old mid (flat_map f (take i xs)) → OnlySays old mid
    → Says mid new (f x) (Err error)
    → SaysLine old new (flat_map f xs) (Err error)
stops_at_call f xs i x d old mid new error h is first stays failed =
    stops_at_item f xs i x d old mid new error h is first stays (one_call mid new (f x) (Err error) failed)
