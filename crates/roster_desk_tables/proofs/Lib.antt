mod Steps
mod Having
