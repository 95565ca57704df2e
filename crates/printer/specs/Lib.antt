-- Document 01, with E1, E3, E4, E6 and E7 of document 02, as definitions.

-- The rules, which must be believed, in the paper's order where they can stand so.
pub mod Types
pub mod Tools
-- 'Units, page and power-on': rounding; settings; power-on
pub mod Units
pub mod Widths
pub mod Settings
pub mod PowerOn
-- 'Commands' and what a letter is: the escapes that change settings; the codes; bytes to commands
pub mod Escapes
pub mod Codes
pub mod Framing
-- 'Records'
pub mod Records
-- 'Commands': what is done and left and written; which is done and which passed over; a byte and an input
pub mod Performing
pub mod Deciding
pub mod Steps
-- 'At every moment', and 'Calls and their numbers'
pub mod Bounds
pub mod Calls
-- The terms of promises and theorems, which say what holds of the code and what follows from the rules.
pub mod Promises
-- states that the bounds accept
pub mod Accepted
-- 'Checked by hand'; demand 2: cutting; the spelling law; records read back
pub mod Decoding
pub mod Cases
-- worked cases, and the bytes of commands by the paper's numbers: what ties the rules to the papers
pub mod Worked
pub mod WorkedInputs
pub mod WorkedStates
pub mod PaperCodes
pub mod Cutting
pub mod Spelling
-- ESC i
pub mod Advanced
-- image columns
pub mod Columns
-- vertical channels
pub mod Vertical
-- demand 3, the last two paragraphs of 'Commands': the reckoning's settings and places, the records that it says are written, the claim
pub mod InForce
pub mod Reckoning
pub mod Shown
pub mod Demand3
