-- The theorems about the commitment, and the laws behind them.

-- what a verdict of 0 says of a question, of a reply and of a call
pub mod Accepted
pub mod AcceptedCall
-- demand 3: one record for each leaf, then the rows
pub mod Bound
pub mod Replies
-- demand 2: what is lent as facts, honest answers, the parts of a reply, read back and checked
pub mod Lent
-- the matrix: its columns and their values, its entries
pub mod Columns
pub mod Entries
pub mod HonestAnswers
pub mod Held
pub mod Parts
pub mod ReplyReadBack
pub mod Committed
pub mod Complete
-- strings and their salt
pub mod Salted
-- one length for sizing, opening and checking
pub mod Opening
pub mod Lengths
-- the work of a check
pub mod Work
-- demand 3 is not empty: questions written as bytes, honest calls that cover all leaves
pub mod Encoded
pub mod HonestRows
pub mod Honesty
-- the starred cases, the program's text, reading aids
pub mod Cases
pub mod Printed
-- interpolation over any points
pub mod Interpolation
pub mod Reading
-- for programs: where the parts of a reply stand
pub mod ReplyPlaces
