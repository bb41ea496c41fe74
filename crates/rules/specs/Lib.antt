-- Document 01 as definitions, in its order: read from the top. Terms are the words that they use; `lists` has those of general use.
pub mod Terms
-- "Units"
pub mod Units
-- "A row and a month"
pub mod Rows
pub mod Cells
pub mod Places
pub mod Orders
-- "Best quote and kept time"
pub mod Quotes
pub mod Search
-- document 02, W4: strikes
pub mod Strikes
pub mod Kept
-- where the time went: the state of each millisecond
pub mod States
pub mod Stretches
pub mod Runs
-- document 02, W1: lapses
pub mod Lapses
-- "Verdict, weight, fee"
pub mod Pay
-- whether the maker may rest
pub mod Outlook
-- "Refused calls" and "Afresh"
pub mod Answers
-- document 02, W11: FIX messages, and the calls that they mean
pub mod Text
pub mod Digits
pub mod Dates
pub mod Fields
pub mod Frame
pub mod Messages
pub mod MessageCalls
pub mod Calls
pub mod Causes
pub mod Lowest
pub mod Changes
pub mod Replies
pub mod Book
pub mod Histories
pub mod Bounds
-- document 02, W4: boards
pub mod Boards
-- "Choosing the row"
pub mod Choosing
-- "Event records and the session run"
pub mod Records
pub mod Widths
pub mod Session
-- where the time went: the stretches of one state, and the account run
pub mod Accounts
-- document 02, W10: fewest pairs
pub mod Fewest
-- "Checks on paper"
pub mod Checks
