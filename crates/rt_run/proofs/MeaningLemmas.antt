-- What an answer means, from an earlier moment and until a later one.
use Rattle.std.proofs.Common.{◌≡◌, List, ℕ, Option, sym, ◌∙◌, refl}
use Rattle.rt_desk.specs.declared.outside.DeskError.{DeskError}
use Rattle.rt_desk.specs.declared.outside.DeskError.TheVariants as unfetched
use Rattle.rt_desk.specs.Desk.{Files, Outside, IsOverLong, OnlyFetches, OnlySays, IsFailedStore}
use Rattle.rt_run.specs.declared.answer.Answer.{Answer}
use Rattle.rt_run.specs.declared.answer.Answer.TheVariants.{Done, Usage, Refused, Infeasible, NotFetched, NotStored, OutOfMemory}
use Rattle.rt_run.specs.declared.fetching.TheConstants.{FILE_LIMIT}
use Rattle.rt_retarget.specs.Files.{Given}
use Rattle.rt_run.specs.Words.{Names, AreWordsFor}
use Rattle.rt_run.specs.Fetched.{AreFetched, FetchFails, IsNotFetched, fetched_names}
use Rattle.rt_run.specs.Answers.{AreMovedTo, MeansOfContents, MeansOfStore, MeansOfFetched, MeansOfNames, MeansOfWords, Means}

-- two moments have the same files and as many stores that were faults
record AreSame (a b : Outside) : Type 0 where
  files : b.files ≡ a.files
  store_faults : b.store_faults ≡ a.store_faults

-- a store that failed, by moments that have the same files
same_failed : (a b c d : Outside) (out : List ℕ) → AreSame a c → AreSame b d → IsFailedStore a b out → IsFailedStore c d out
same_failed a b c d out left right is = record {
  rose = rw (left.store_faults, right.store_faults) is.rose;
  changed = rw (left.files, right.files) is.changed;
}

-- what an answer means for the contents, by moments that have the same files
same_contents : (contents : Given) (out : List ℕ) (a b c d : Outside) (answer : Answer)
    → AreSame a c → AreSame b d → MeansOfContents contents out a b answer → MeansOfContents contents out c d answer
same_contents contents out a b c d Done left right means =
    record { bytes = means.bytes; moved = means.moved; stored = rw (left.files, right.files) means.stored }
same_contents contents out a b c d NotStored left right means =
    record { bytes = means.bytes; moved = means.moved; failed = same_failed a b c d out left right means.failed }
same_contents contents out a b c d (Refused refusal) left right means = (means.0, means.1, rw (left.files, right.files) means.2)
same_contents contents out a b c d (Infeasible axis) left right means = (means.0, rw (left.files, right.files) means.1)
same_contents contents out a b c d OutOfMemory left right means = rw (left.files, right.files) means
same_contents contents out a b c d Usage left right means = means
same_contents contents out a b c d (NotFetched file) left right means = means

-- the cell was moved to these bytes, and this is what their store means
pub of_store : (contents : Given) (out bytes : List ℕ) (before after : Outside) (answer : Answer)
    → AreMovedTo contents bytes → MeansOfStore before after out bytes answer → MeansOfContents contents out before after answer
of_store contents out bytes before after Done moved means = record { bytes = bytes; moved = moved; stored = means }
of_store contents out bytes before after NotStored moved means = record { bytes = bytes; moved = moved; failed = means }
of_store contents out bytes before after OutOfMemory moved means = means
of_store contents out bytes before after (Refused refusal) moved means = absurd means
of_store contents out bytes before after (Infeasible axis) moved means = absurd means
of_store contents out bytes before after Usage moved means = means
of_store contents out bytes before after (NotFetched file) moved means = means

-- what an answer means for the contents that were fetched, as what it means for the names
fetched_means : (contents : Given) (names : Names) (old new : Outside) (answer : Answer)
    → AreFetched old.files names contents → MeansOfContents contents names.out old new answer → MeansOfNames names old new answer
fetched_means contents names old new Done fetched means = record { contents = contents; fetched = fetched; means = means }
fetched_means contents names old new NotStored fetched means = record { contents = contents; fetched = fetched; means = means }
fetched_means contents names old new (Refused refusal) fetched means = record { contents = contents; fetched = fetched; means = means }
fetched_means contents names old new (Infeasible axis) fetched means = record { contents = contents; fetched = fetched; means = means }
fetched_means contents names old new OutOfMemory fetched means = means
fetched_means contents names old new Usage fetched means = means
fetched_means contents names old new (NotFetched file) fetched means = absurd means

-- what an answer means for the names, where the four files were fetched
pub of_contents : (contents : Given) (names : Names) (old mid new : Outside) (answer : Answer)
    → AreFetched old.files names contents → OnlyFetches old mid → MeansOfContents contents names.out mid new answer → MeansOfNames names old new answer
of_contents contents names old mid new answer fetched stays means =
    let left : AreSame mid old = record { files = sym stays.files; store_faults = sym stays.store_faults } in
    let right : AreSame new new = record { files = refl; store_faults = refl } in
    fetched_means contents names old new answer fetched (same_contents contents names.out mid new old new answer left right means)

-- what an answer means for the words, where they name the files
pub of_names : (words : List (List ℕ)) (names : Names) (before after : Outside) (answer : Answer)
    → AreWordsFor words names → MeansOfNames names before after answer → Means words before after answer
of_names words names before after Done form means = record { names = names; form = form; means = means }
of_names words names before after NotStored form means = record { names = names; form = form; means = means }
of_names words names before after (Refused refusal) form means = record { names = names; form = form; means = means }
of_names words names before after (Infeasible axis) form means = record { names = names; form = form; means = means }
of_names words names before after (NotFetched file) form means = record { names = names; form = form; means = means }
of_names words names before after OutOfMemory form means = record { names = names; form = form; means = means }
of_names words names before after Usage form means = absurd means

-- a file that was too long for a fetch, until says
long_until : (files : Option Files) (old mid new : ℕ) (name : List ℕ) → new ≡ mid → IsOverLong files old mid name FILE_LIMIT → IsOverLong files old new name FILE_LIMIT
long_until files old mid new name e long = rw e long

-- the error of a fetch, until says
fails_until : (old mid new : Outside) (name : List ℕ) (error : DeskError) → OnlySays mid new → FetchFails old mid name error → FetchFails old new name error
fails_until old mid new name unfetched.Failed stays fails = rw stays.fetch_faults fails
fails_until old mid new name unfetched.Missing stays fails = fails
fails_until old mid new name unfetched.TooLong stays fails =
    long_until old.files old.fetch_faults mid.fetch_faults new.fetch_faults name stays.fetch_faults fails
fails_until old mid new name unfetched.OutOfMemory stays fails = tt

-- the first file that wasn't fetched, until says
not_fetched_until : (old mid new : Outside) (names : List (List ℕ)) (name : List ℕ) (error : DeskError)
    → OnlySays mid new → IsNotFetched old mid names name error → IsNotFetched old new names name error
not_fetched_until old mid new names name error stays is = record {
  before = is.before;
  after = is.after;
  in_order = is.in_order;
  readable = is.readable;
  fails = fails_until old mid new name error stays is.fails;
}

-- what an answer means for the files that were fetched, until says
fetched_until : (names : Names) (old mid new : Outside) (answer : Answer) → OnlySays mid new → MeansOfFetched names old mid answer → MeansOfFetched names old new answer
fetched_until names old mid new answer stays is =
    let left : AreSame old old = record { files = refl; store_faults = refl } in
    let right : AreSame mid new = record { files = stays.files; store_faults = stays.store_faults } in
    record {
      contents = is.contents;
      fetched = is.fetched;
      means = same_contents is.contents names.out old mid old new answer left right is.means;
    }

-- what an answer means for the names, until says
names_until : (names : Names) (old mid new : Outside) (answer : Answer) → OnlySays mid new → MeansOfNames names old mid answer → MeansOfNames names old new answer
names_until names old mid new Done stays is = fetched_until names old mid new Done stays is
names_until names old mid new NotStored stays is = fetched_until names old mid new NotStored stays is
names_until names old mid new (Refused refusal) stays is = fetched_until names old mid new (Refused refusal) stays is
names_until names old mid new (Infeasible axis) stays is = fetched_until names old mid new (Infeasible axis) stays is
names_until names old mid new (NotFetched file) stays is =
    (not_fetched_until old mid new (fetched_names names) file.name.now file.error stays is.0, stays.files ∙ is.1)
names_until names old mid new OutOfMemory stays is = stays.files ∙ is
names_until names old mid new Usage stays is = is

-- what an answer means for the words, until says
words_until : (words : List (List ℕ)) (old mid new : Outside) (answer : Answer) → OnlySays mid new → MeansOfWords words old mid answer → MeansOfWords words old new answer
words_until words old mid new answer stays is = record { names = is.names; form = is.form; means = names_until is.names old mid new answer stays is.means }

-- what an answer means, until its line is said
pub means_until : (words : List (List ℕ)) (old mid new : Outside) (answer : Answer) → OnlySays mid new → Means words old mid answer → Means words old new answer
means_until words old mid new Usage stays is = record { no_form = is.no_form; files = stays.files ∙ is.files }
means_until words old mid new Done stays is = words_until words old mid new Done stays is
means_until words old mid new NotStored stays is = words_until words old mid new NotStored stays is
means_until words old mid new (Refused refusal) stays is = words_until words old mid new (Refused refusal) stays is
means_until words old mid new (Infeasible axis) stays is = words_until words old mid new (Infeasible axis) stays is
means_until words old mid new (NotFetched file) stays is = words_until words old mid new (NotFetched file) stays is
means_until words old mid new OutOfMemory stays is = words_until words old mid new OutOfMemory stays is
