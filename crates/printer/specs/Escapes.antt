-- Document 01, 'Commands': the escapes that change settings. A row each: the second byte, the arguments that it takes
-- (another is reason 2), and the settings that it leaves.
use Rattle.std.specs.Prelude.{ℕ, ◌*◌, ◌%◌, Bool, true, false, List, [], ◌∷◌, leb, eqb}
use Rattle.printer.specs.Tools.{pick, either, within, bit}
use Rattle.printer.specs.Settings.{emphasis_of, settings_of, with_width, with_emphasis, with_script, with_draft, with_upper_prints, with_pitch, with_spacing, with_doubling, with_reduced, with_proportional, with_bold, with_double_strike, with_italic, with_underline, with_font, with_country, with_outline, with_double_height, with_italic_table, with_download, with_skip, with_line}
use Rattle.printer.specs.Types.{Choice, Look, Mode, Parameter, Pitch, Settings, Switch, Width}

pub record EscapeRow : Type 0 where
  pub code : ℕ
  pub takes : ℕ → Bool
  pub sets : Settings → ℕ → Settings

abbrev row : ℕ → (ℕ → Bool) → (Settings → ℕ → Settings) → EscapeRow
row code takes sets = record { code = code; takes = takes; sets = sets }

-- one without an argument
abbrev alone : ℕ → (Settings → Settings) → EscapeRow
alone code sets = row code (λ n. true) (λ s n. sets s)

-- Arguments

abbrev any : ℕ → Bool
any n = true

abbrev at_most : ℕ → ℕ → Bool
at_most m n = leb n m

-- 0, 1, 30h, 31h
abbrev pub switches : ℕ → Bool
switches n = either (leb n 1) (within 0x30 0x31 n)

-- of these, 1 and 31h switch on
abbrev pub switched_on : ℕ → Bool
switched_on n = either (eqb n 1) (eqb n 0x31)

-- 0 to 13, 40h
abbrev pub countries : ℕ → Bool
countries n = either (leb n 13) (eqb n 0x40)

-- What places letters

-- ESC W: 0 ends SO too
abbrev pub doubled : Width → Bool → Width
doubled w on = with_doubling w on (pick on w.wideonce false)

-- ESC !: each clear bit cancels, 20h SO too; 1 chooses 12 cpi, else 10
abbrev pub master_width : Width → ℕ → Width
master_width w n =
    doubled
    (with_proportional (with_reduced (with_pitch w (pick (bit n 0x01) Pitch.Cpi12 Pitch.Cpi10)) (bit n 0x04)) (bit n 0x02))
    (bit n 0x20)

abbrev pub master_settings : Settings → ℕ → Settings
master_settings s n =
    with_emphasis (with_width s (master_width s.width n))
    (emphasis_of (bit n 0x08) (bit n 0x10) (bit n 0x40) (bit n 0x80))

abbrev pub pitch_code : Pitch → ℕ
pitch_code Pitch.Cpi10 = 0x50
pitch_code Pitch.Cpi12 = 0x4D
pitch_code Pitch.Cpi15 = 0x67

-- ESC 0: 450. ESC 2: 600. ESC O: skip 0. ESC P, M, g: pitch only. ESC 6, 7
abbrev pub mode_row : Mode → EscapeRow
mode_row Mode.EighthInchLine = alone 0x30 (λ s. with_line s 450)
mode_row Mode.SixthInchLine = alone 0x32 (λ s. with_line s 600)
mode_row Mode.NoSkip = alone 0x4F (λ s. with_skip s 0)
mode_row (Mode.Pitch p) = alone (pitch_code p) (λ s. with_width s (with_pitch s.width p))
mode_row (Mode.UpperPrints on) = alone (pick on 0x36 0x37) (λ s. with_upper_prints s on)

-- ESC 3 n: 20n. ESC A n: 60n, n ≤ 85. ESC + n: 10n. ESC SP n: n mod 128. ESC p, x, W: 0, 1, 30h, 31h. ESC ! n
abbrev pub parameter_row : Parameter → EscapeRow
parameter_row Parameter.Line180ths = row 0x33 any (λ s n. with_line s (20 * n))
parameter_row Parameter.Line60ths = row 0x41 (at_most 85) (λ s n. with_line s (60 * n))
parameter_row Parameter.Line360ths = row 0x2B any (λ s n. with_line s (10 * n))
parameter_row Parameter.Spacing = row 0x20 any (λ s n. with_width s (with_spacing s.width (n % 128)))
parameter_row Parameter.Proportional = row 0x70 switches (λ s n. with_width s (with_proportional s.width (switched_on n)))
parameter_row Parameter.Quality = row 0x78 switches (λ s n. with_draft s (pick (switched_on n) false true))
parameter_row Parameter.DoubleWidth = row 0x57 switches (λ s n. with_width s (doubled s.width (switched_on n)))
parameter_row Parameter.Master = row 0x21 any master_settings

-- What only shows on a letter's record

-- ESC E, F, G, H, 4, 5, T
abbrev pub switch_row : Switch → EscapeRow
switch_row (Switch.Bold on) = alone (pick on 0x45 0x46) (λ s. with_bold s on)
switch_row (Switch.DoubleStrike on) = alone (pick on 0x47 0x48) (λ s. with_double_strike s on)
switch_row (Switch.Italic on) = alone (pick on 0x34 0x35) (λ s. with_italic s on)
switch_row Switch.NoScript = alone 0x54 (λ s. with_script s false false)

-- ESC S, -, w, %: 0, 1, 30h, 31h; ESC S clears the other script bit. ESC q 0 to 3. ESC t 0, 1. ESC k n: any. ESC R 0 to 13, 40h
abbrev pub choice_row : Choice → EscapeRow
choice_row Choice.Script = row 0x53 switches (λ s n. with_script s (pick (switched_on n) false true) (switched_on n))
choice_row Choice.Underline = row 0x2D switches (λ s n. with_underline s (switched_on n))
choice_row Choice.DoubleHeight = row 0x77 switches (λ s n. with_double_height s (switched_on n))
choice_row Choice.Outline = row 0x71 (at_most 3) with_outline
choice_row Choice.CodeTable = row 0x74 (at_most 1) (λ s n. with_italic_table s (eqb n 0))
choice_row Choice.Font = row 0x6B any with_font
choice_row Choice.Country = row 0x52 countries with_country
choice_row Choice.Download = row 0x25 switches (λ s n. with_download s (switched_on n))

abbrev pub look_takes : Look → Bool
look_takes (Look.Switch w) = true
look_takes (Look.Choice c n) = (choice_row c).takes n

-- of the settings that they leave only this counts
abbrev looked : Settings → Settings → Settings
looked s t = settings_of s.setup s.width t.emphasis t.script t.face s.margins s.paper s.draft s.upperprints

abbrev pub look_settings : Settings → Look → Settings
look_settings s (Look.Switch w) = looked s ((switch_row w).sets s 0)
look_settings s (Look.Choice c n) = looked s ((choice_row c).sets s n)

-- All of them

unfoldable pub modes : List Mode
modes =
    Mode.EighthInchLine ∷ Mode.SixthInchLine ∷ Mode.NoSkip ∷ Mode.Pitch Pitch.Cpi10 ∷ Mode.Pitch Pitch.Cpi12 ∷
    Mode.Pitch Pitch.Cpi15 ∷ Mode.UpperPrints true ∷ Mode.UpperPrints false ∷ []

unfoldable pub looks : List Switch
looks =
    Switch.Bold true ∷ Switch.Bold false ∷ Switch.DoubleStrike true ∷ Switch.DoubleStrike false ∷
    Switch.Italic true ∷ Switch.Italic false ∷ Switch.NoScript ∷ []

unfoldable pub parameters : List Parameter
parameters =
    Parameter.Line180ths ∷ Parameter.Line60ths ∷ Parameter.Line360ths ∷ Parameter.Spacing ∷
    Parameter.Proportional ∷ Parameter.Quality ∷ Parameter.DoubleWidth ∷ Parameter.Master ∷ []

unfoldable pub choices : List Choice
choices =
    Choice.Script ∷ Choice.Underline ∷ Choice.DoubleHeight ∷ Choice.Outline ∷
    Choice.CodeTable ∷ Choice.Font ∷ Choice.Country ∷ Choice.Download ∷ []
