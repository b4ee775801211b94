-- Every log of the table is answered as it says: all answers are computed at once, and one law reads off each.
use mathlib.Core.Path.{◌≡◌, refl}
use mathlib.Core.List.{map}
use Rattle.words.specs.Layout.{is_of}
use Rattle.rules.specs.Reading.{between, logged_contacts, is_true_end, is_legal, ensure_word, ensure_words, read_refusal, comes_in, different, read_answer}
use Rattle.rules.specs.LogExamples.{answered, log_rows, LogsAnswered}
use Rattle.rules.proofs.Folds.{map-agree}

computed : map answered log_rows ≡ map (λ r. r.answer) log_rows
unfolding read_answer read_refusal between logged_contacts is_true_end is_legal ensure_word ensure_words different comes_in is_of
computed = refl

pub logs_answered : LogsAnswered
logs_answered = map-agree answered (λ r. r.answer) log_rows computed
