mod Rows
mod EntryRows
