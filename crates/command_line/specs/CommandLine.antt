-- The words of the command line.
use Rattle.std.specs.Prelude.{ℕ, ◌+◌, ◌*◌, ◌-◌, true, List, [], ◌∷◌, length, Option, Some, None, Result, Ok, Err, codes, bytes_eq}
use Rattle.std.specs.Char.{is_ascii_digit}
use Rattle.printer.specs.Tools.{pick, within}
use Rattle.printer.specs.Calls.{plain_start}
use Rattle.printer.specs.declared.settings.StartSettings.{StartSettings}
use Rattle.command_line.specs.declared.BadUsage.{BadUsage}
use Rattle.command_line.specs.declared.Options.{Options}
use Rattle.command_line.specs.declared.Choice.{Choice}

-- Numbers

-- a number n and one digit more
abbrev pub with_digit : ℕ → ℕ → ℕ
with_digit n b = 10 * n + (b - 48)

-- the most digits of a number: any such fits 32 bits
abbrev pub most_digits : ℕ
most_digits = 9

-- the number of the digits, after those that come to n
unfoldable pub decimal_from : ℕ → List ℕ → Option ℕ
decimal_from n [] = Some n
decimal_from n (b ∷ l) = pick (is_ascii_digit b) (decimal_from (with_digit n b) l) None

-- a word of digits, not too many
unfoldable pub decimal_of : List ℕ → Option ℕ
decimal_of l = pick (within 1 most_digits (length l)) (decimal_from 0 l) None

-- Words

abbrev pub dots_word : List ℕ
dots_word = codes "--dots"

abbrev pub width_word : List ℕ
width_word = codes "--width"

abbrev pub auto_feed_word : List ℕ
auto_feed_word = codes "--auto-feed"

abbrev pub help_word : List ℕ
help_word = codes "--help"

infixl 10 ◌>>=◌
abbrev pub ◌>>=◌ : {A B E : Type 0} → Result A E → (A → Result B E) → Result B E
Ok a >>= f = f a
Err e >>= f = Err e

-- what all the words ask for: after one that is not taken no other counts
unfoldable pub asked_by : {A B E : Type 0} → (A → List ℕ → Result A E) → (A → Result B E) → A → List (List ℕ) → Result B E
asked_by after choice a [] = choice a
asked_by after choice a (w ∷ l) = after a w >>= (λ b. asked_by after choice b l)

-- words that are not taken
abbrev pub bad : {A : Type 0} → Result A BadUsage
bad = Err (record {})

-- Options

-- before any word: 300 dots an inch, automatic line feed off, the widest paper
abbrev pub no_words : Options
no_words = Options.Run plain_start

abbrev pub with_dots : StartSettings → ℕ → StartSettings
with_dots s dots = record { resolution = dots; autofeed = s.autofeed; width = s.width }

abbrev pub with_feed : StartSettings → StartSettings
with_feed s = record { resolution = s.resolution; autofeed = true; width = s.width }

abbrev pub with_width : StartSettings → ℕ → StartSettings
with_width s width = record { resolution = s.resolution; autofeed = s.autofeed; width = width }

-- a word where an option may stand
unfoldable pub after_option : StartSettings → List ℕ → Result Options BadUsage
after_option s w =
    pick (bytes_eq w dots_word) (Ok (Options.WantsDots s))
    (pick (bytes_eq w width_word) (Ok (Options.WantsWidth s))
    (pick (bytes_eq w auto_feed_word) (Ok (Options.Run (with_feed s)))
    (pick (bytes_eq w help_word) (Ok Options.Help) bad)))

-- the word after --dots
abbrev pub after_dots : StartSettings → Option ℕ → Result Options BadUsage
after_dots s (Some n) = Ok (Options.Run (with_dots s n))
after_dots s None = bad

-- the word after --width
abbrev pub after_width : StartSettings → Option ℕ → Result Options BadUsage
after_width s (Some n) = Ok (Options.Run (with_width s n))
after_width s None = bad

abbrev pub after_word : Options → List ℕ → Result Options BadUsage
after_word (Options.Run s) w = after_option s w
after_word (Options.WantsDots s) w = after_dots s (decimal_of w)
after_word (Options.WantsWidth s) w = after_width s (decimal_of w)
after_word Options.Help w = Ok Options.Help

-- after the last word
abbrev pub choice_of : Options → Result Choice BadUsage
choice_of (Options.Run s) = Ok (Choice.Run s)
choice_of (Options.WantsDots s) = bad
choice_of (Options.WantsWidth s) = bad
choice_of Options.Help = Ok Choice.Help
